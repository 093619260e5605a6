-- Searching for all whole words of a text, overlapping ones too: where a search stands, what it finds, and what it costs.
use Rattle.std.specs.Prelude.{◌≡◌, ◌⊎◌, ℕ, ◌+◌, ◌<◌, ◌≤◌, Bool, false, true, List, [], ◌∷◌, ◌++◌, length, map, take, drop, filter, Option, None, Some}
use Rattle.ac_input.specs.Number.{StateID}
use Rattle.ac_input.specs.declared.search.Anchored.TheVariants.{No}
use Rattle.ac_input.specs.declared.steps.Steps.{Steps}
use Rattle.ac_input.specs.Computed.{listing_among, listing_of}
use Rattle.ac_input.specs.Dictionary.{Dictionary, whole}
use Rattle.ac_input.specs.Laws.BeginningLaws.{IsBeginning}
use Rattle.ac_input.specs.Occurrence.{Occurrence}
use Rattle.ac_input.specs.Tells.{ending_at}
use Rattle.ac_input.specs.Word.{is_whole_word, whole_occurrences}
use Rattle.ac_input.specs.Work.{longest}
use Rattle.ac_automaton.specs.Words.{IsWindowOf, PaysForWords}
use Rattle.ac_automaton.specs.declared.automaton.Automaton.{Ghosts}
use Rattle.ac_automaton.specs.declared.words.Window.{Window}
use Rattle.ac_automaton.specs.declared.words.listed.ListedPlace.{ListedPlace}

-- all whole words of a text, by end, start and number
abbrev pub word_listing : Dictionary → List ℕ → List Occurrence
word_listing m x = listing_among whole_occurrences (whole m x false)

-- those of them that end at a place or before
abbrev pub words_up_to : Dictionary → List ℕ → ℕ → List Occurrence
words_up_to m x at = filter (is_whole_word x) (listing_of (whole m (take at x) false))

-- the whole words of a text among what a state's list has at a place
abbrev pub words_told : Dictionary → List ℕ → ℕ → List ℕ → List Occurrence
words_told m x at ns = filter (is_whole_word x) (map (ending_at m at) ns)

-- However a text goes on, its words up to where a search stands are those that were given, and those of the state's list that are
-- left.
abbrev pub HasListed : Dictionary → (StateID → List ℕ) → Bool → List ℕ → List Occurrence → ListedPlace → Type 0
HasListed m matches closed x given p =
    (more : List ℕ) → (closed ≡ true → more ≡ [])
    → words_up_to m (x ++ more) p.at ≡ given ++ words_told m (x ++ more) p.at (drop p.index (matches p.sid))

-- A search for all whole words stands in a state that was reached by the text up to a place. The bytes are held from a place on, and
-- with them the byte before each word that it may still meet.
pub record StandsForListed (m : Dictionary) (Reaches : List ℕ → StateID → Type 0) (matches : StateID → List ℕ) (from : ℕ)
    (closed : Bool) (x : List ℕ) (given : List Occurrence) (p : ListedPlace) : Type 0 where
  pub before : 0 < from → from + longest m.patterns < p.at
  pub within : p.at ≤ length x
  pub reads : Reaches (take p.at x) p.sid
  pub listed : HasListed m matches closed x given p

-- The byte after what ends where the search stands is in the window, or nothing follows.
abbrev pub IsByteKnown : Window → ListedPlace → Type 0
IsByteKnown w p = (p.at < w.from + length w.bytes.now) ⊎ (w.closed ≡ true)

-- these are the first whole words of a text, however it goes on
abbrev pub AreFirstWords : Dictionary → Bool → List ℕ → List Occurrence → Type 0
AreFirstWords m closed x given =
    (more : List ℕ) → (closed ≡ true → more ≡ []) → IsBeginning given (word_listing m (x ++ more))

-- The next word of the state's list, which ends where the search stands; or the list has no other one.
abbrev pub TellsWord : Dictionary → (List ℕ → StateID → Type 0) → (StateID → List ℕ) → ℕ → Bool → List ℕ → List Occurrence
    → ListedPlace → Option Occurrence → Type 0
TellsWord m Reaches matches from closed x given new (Some o) =
    StandsForListed m Reaches matches from closed x (given ++ o ∷ []) new × (o.end ≡ new.at)
TellsWord m Reaches matches from closed x given new None =
    StandsForListed m Reaches matches from closed x given new × (length (matches new.sid) ≤ new.index)

-- The next word of the listing, after those that were given. Or there is none yet: all was read, and if nothing follows, all words were
-- given.
abbrev pub ListsWord : Dictionary → (List ℕ → StateID → Type 0) → (StateID → List ℕ) → ℕ → Bool → List ℕ → List Occurrence
    → ListedPlace → Option Occurrence → Type 0
ListsWord m Reaches matches from closed x given new (Some o) =
    StandsForListed m Reaches matches from closed x (given ++ o ∷ []) new × (o.end ≡ new.at)
    × AreFirstWords m closed x (given ++ o ∷ [])
ListsWord m Reaches matches from closed x given new None =
    StandsForListed m Reaches matches from closed x given new × (new.at ≡ length x)
    × (closed ≡ true → given ≡ word_listing m x)

-- The search doesn't go back. Where it stands at the end of a window after which more may follow, it finds none.
pub record GoesOnListed (w : Window) (old new : ListedPlace) (r : Option Occurrence) : Type 0 where
  pub on : old.at ≤ new.at
  pub rests : w.closed ≡ false → old.at ≡ w.from + length w.bytes.now → r ≡ None

module _ {S : Type 0} (A : Ghosts S) (automaton : S) where
  -- A search stands here in a text whose end a window shows, and has given these words.
  abbrev pub StandsInWindow : Window → List ℕ → List Occurrence → ListedPlace → Type 0
  StandsInWindow w x given p =
      IsWindowOf w x
      × StandsForListed (A.built automaton).dictionary (A.Reaches automaton No) (A.matches automaton) w.from w.closed x given p

  -- a search may stand here, whatever the text before the window is, and whatever words were given
  abbrev pub MayListWords : Window → ListedPlace → Type 0
  MayListWords w p = (x : List ℕ) × (given : List Occurrence) × StandsInWindow w x given p

  -- whatever that is, this is the next word of the state's list, or it has no other one
  abbrev pub TellsNextWord : Window → ListedPlace → ListedPlace → Option Occurrence → Type 0
  TellsNextWord w old new r =
      (x : List ℕ) (given : List Occurrence) → StandsInWindow w x given old
      → TellsWord (A.built automaton).dictionary (A.Reaches automaton No) (A.matches automaton) w.from w.closed x given new r

  -- it stands right where it has read on to
  abbrev pub ReadsOnForListed : Window → ListedPlace → ListedPlace → Type 0
  ReadsOnForListed w old new =
      (x : List ℕ) (given : List Occurrence) → StandsInWindow w x given old → StandsInWindow w x given new

  -- this is the next word of the listing, or none can be told yet
  abbrev pub ListsNextWord : Window → ListedPlace → ListedPlace → Option Occurrence → Type 0
  ListsNextWord w old new r =
      (x : List ℕ) (given : List Occurrence) → StandsInWindow w x given old
      → ListsWord (A.built automaton).dictionary (A.Reaches automaton No) (A.matches automaton) w.from w.closed x given new r

  -- The bytes up to where it stands pay for its looks, and it has looked at least once at each byte that it passed.
  abbrev pub PaysForListed : Window → ListedPlace → ListedPlace → Steps → Steps → Type 0
  PaysForListed w old new before after =
      (x : List ℕ) (given : List Occurrence) → StandsInWindow w x given old
      → PaysForWords (A.built automaton) x 0 old.at new.at before after

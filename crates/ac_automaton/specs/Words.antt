-- Searching for whole words: where a search stands, what it finds, and what it costs.
pub mod Before
use Rattle.std.specs.Prelude.{◌≡◌, ◌≢◌, ◌⊎◌, ℕ, ◌+◌, ◌-◌, ◌<◌, ◌≤◌, max, Bool, true, false, List, [], ◌++◌, length, drop, Option, None, Some}
use Rattle.ac_input.specs.Number.{StateID}
use Rattle.ac_input.specs.declared.search.Anchored.TheVariants.{No}
use Rattle.ac_input.specs.declared.search.MatchKind.{MatchKind}
use Rattle.ac_input.specs.declared.search.MatchKind.TheVariants.{Standard}
use Rattle.ac_input.specs.declared.steps.Steps.{Steps}
use Rattle.std.specs.declared.cmp.Ordering.TheVariants.{Greater}
use Rattle.ac_input.specs.Best.{IsLeast, preference}
use Rattle.ac_input.specs.Dictionary.{Dictionary, IsLive, whole}
use Rattle.ac_input.specs.Occurrence.{Occurrence}
use Rattle.ac_input.specs.Word.{OccursWhole}
use Rattle.ac_input.specs.Work.{longest}
use Rattle.ac_automaton.specs.Automaton.{Built}
use Rattle.ac_automaton.specs.InMemory.Find.Cursor.{read_to}
use Rattle.ac_automaton.specs.InMemory.Overlapping.{IsPaidAt, OnlyLooked}
pub use Rattle.ac_automaton.specs.Words.Before.{WordsBefore, text_from}
use Rattle.ac_automaton.specs.declared.automaton.Automaton.{Ghosts}
use Rattle.ac_automaton.specs.declared.words.Window.{Window}
use Rattle.ac_automaton.specs.declared.words.WordPlace.{WordPlace}

-- The window shows the end of a text, from a place of it on.
pub record IsWindowOf (w : Window) (x : List ℕ) : Type 0 where
  pub within : w.from ≤ length x
  pub shown : w.bytes.now ≡ drop w.from x

-- A word that is still to be found begins at this place or later: where the search last began anew, and no further before the
-- place where it stands than the longest pattern is long.
abbrev pub word_cut : Dictionary → WordPlace → ℕ
word_cut m p = max p.last (p.at - max (longest m.patterns) 1)

-- Where a search for whole words stands in a text: its state was reached from the place where it last began anew. Bytes are
-- held from a place on, and the byte before each word that is still to be found is among them.
pub record IsWordPlace (m : Dictionary) (Reaches : List ℕ → StateID → Type 0) (from : ℕ) (x : List ℕ)
    (p : WordPlace) : Type 0 where
  pub start : Reaches [] p.start
  pub before : 0 < from → from < word_cut m p
  pub order : p.last ≤ p.at
  pub within : p.at ≤ length x
  pub reads : Reaches (read_to (text_from m x p.last) p.at) p.sid

-- up to where a search may read to find a word: to its end, or under a leftmost kind one byte past what begins with it
abbrev pub word_reach : MatchKind → List (List ℕ) → Occurrence → ℕ
word_reach Standard patterns o = o.end
word_reach kind patterns o = o.start + longest patterns + 1

-- A search stands right: its best word is that of all which end before the place where it stands. Under standard it would have been
-- given, so there is none.
pub record StandsForWords (m : Dictionary) (Reaches : List ℕ → StateID → Type 0) (from : ℕ) (x : List ℕ)
    (p : WordPlace) : Type 0 where
  pub place : IsWordPlace m Reaches from x p
  pub best : IsLeast p.kind (WordsBefore m x p.last p.at) p.best
  pub near : (o : Occurrence) → p.best ≡ Some o → (p.kind ≢ Standard) × (p.at ≤ word_reach p.kind m.patterns o)

-- It has looked at what ends at that place, too.
pub record HasSeen (m : Dictionary) (Reaches : List ℕ → StateID → Type 0) (from : ℕ) (x : List ℕ)
    (p : WordPlace) : Type 0 where
  pub place : IsWordPlace m Reaches from x p
  pub best : IsLeast p.kind (WordsBefore m x p.last (p.at + 1)) p.best

-- the better of two words, of which one may be absent
abbrev pub BetterOf : MatchKind → Option Occurrence → Occurrence → Occurrence → Type 0
BetterOf kind None found r = r ≡ found
BetterOf kind (Some best) found r =
    ((r ≡ found) ⊎ (r ≡ best)) × (preference kind r found ≢ Greater) × (preference kind r best ≢ Greater)

-- before which place all that ends was looked at: what ends where the search stands is included, or isn't
abbrev pub seen_to : WordPlace → Bool → ℕ
seen_to p true = p.at + 1
seen_to p false = p.at

-- no pattern matches where a search stands, and nothing of what was read is live
abbrev pub IsQuietPlace : {S : Type 0} → Ghosts S → S → WordPlace → Type 0
IsQuietPlace A a p =
    (A.matches a p.sid ≡ [])
    × ((text : List ℕ) → A.Reaches a No text p.sid → IsLive (A.built a).dictionary false text (Some (length text)))

-- a pattern matches there, or something of what was read is live
abbrev pub IsBusy : {S : Type 0} → Ghosts S → S → WordPlace → Type 0
IsBusy A a p =
    A.matches a p.sid ≡ [] → (text : List ℕ) → A.Reaches a No text p.sid
    → ¬ IsLive (A.built a).dictionary false text (Some (length text))

-- Why a word is final: nothing follows; or the kind is the standard one; or those that begin as early or earlier were looked at; or
-- nothing of what was read is live.
abbrev pub IsDecidedBy : {S : Type 0} → Ghosts S → S → WordPlace → Bool → Bool → Occurrence → Type 0
IsDecidedBy A a p seen over o =
    (over ≡ true) ⊎ (p.kind ≡ Standard) ⊎ (o.start + longest (A.built a).dictionary.patterns < seen_to p seen) ⊎ IsQuietPlace A a p

-- A word isn't decided yet: another that begins as early, or earlier, may still be met.
pub record IsOpen {S : Type 0} (A : Ghosts S) (a : S) (p : WordPlace) (seen over : Bool) (o : Occurrence) : Type 0 where
  pub more : over ≡ false
  pub leftmost : p.kind ≢ Standard
  pub needed : seen_to p seen ≤ o.start + longest (A.built a).dictionary.patterns
  pub busy : IsBusy A a p

-- the best word is decided, or not yet
abbrev pub Decided : {S : Type 0} → Ghosts S → S → WordPlace → Bool → Bool → Option Occurrence → Type 0
Decided A a p seen over (Some o) = (p.best ≡ Some o) × IsDecidedBy A a p seen over o
Decided A a p seen over None = (o : Occurrence) → p.best ≡ Some o → IsOpen A a p seen over o

-- the best word of those that end before the place where a search stands isn't decided, if there is one
abbrev pub IsBestOpen : {S : Type 0} → Ghosts S → S → WordPlace → Type 0
IsBestOpen A a p = (o : Occurrence) → p.best ≡ Some o → IsOpen A a p false false o

-- a search that begins anew at the end of a word
abbrev pub anew_after : WordPlace → Occurrence → WordPlace
anew_after p o = record p { sid = p.start; last = o.end; at = o.end; best = None }

-- the word is the best of those that begin at a place or later, and stays it, however the text goes on
abbrev pub IsFinalWord : Dictionary → MatchKind → Bool → List ℕ → ℕ → Occurrence → Type 0
IsFinalWord m kind closed x from o =
    (more : List ℕ) → (closed ≡ true → more ≡ []) → IsLeast kind (OccursWhole (text_from m (x ++ more) from)) (Some o)

-- The next word of a text, which is final; then the search begins anew at its end. Or there is none yet: all was read, and if
-- nothing follows, there is no further word.
abbrev pub FindsWord : Dictionary → (List ℕ → StateID → Type 0) → ℕ → Bool → List ℕ → WordPlace → WordPlace
    → Option Occurrence → Type 0
FindsWord m Reaches from closed x old new (Some o) =
    (new ≡ anew_after old o) × IsFinalWord m old.kind closed x old.last o × (o.end ≤ length x)
FindsWord m Reaches from closed x old new None =
    StandsForWords m Reaches from x new × (new.kind ≡ old.kind) × (new.start ≡ old.start) × (new.last ≡ old.last)
    × (new.at ≡ length x)
    × (closed ≡ true → IsLeast old.kind (OccursWhole (text_from m x old.last)) None)

-- Where a search finds no word, its best word isn't decided. If it stands at the end of a window after which more may follow,
-- and its best word isn't decided, it finds none.
pub record WaitsForWord {S : Type 0} (A : Ghosts S) (a : S) (w : Window) (old new : WordPlace)
    (r : Option Occurrence) : Type 0 where
  pub open_ : r ≡ None → IsBestOpen A a new
  pub rests : w.closed ≡ false → old.at ≡ w.from + length w.bytes.now → IsBestOpen A a old → r ≡ None

-- A search that has no best word begins anew where it stands, if nothing of what was read is live. Else it is unchanged.
abbrev pub BeginsIfIdle : {S : Type 0} → Ghosts S → S → WordPlace → WordPlace → Type 0
BeginsIfIdle A a old new =
    ((old.best ≡ None) × IsQuietPlace A a old × (new ≡ record old { sid = old.start; last = old.at }))
    ⊎ ((old.best ≡ None → IsBusy A a old) × (new ≡ old))

-- What a search pays that last began anew at one place, and reads on from a second one to a third: if the bytes up to the second one
-- paid for some looks, and for one more for each byte that is live there, then those up to the third pay for its own, too. It looks
-- at least once at each byte, and if it doesn't read on, at none.
pub record PaysForWords (b : Built) (x : List ℕ) (last from to : ℕ) (before after : Steps) : Type 0 where
  pub paid : (looks more : ℕ)
      → IsPaidAt b.dictionary b.deterministic (text_from b.dictionary x last) last from looks
      → looks + after.looked.value ≡ more + before.looked.value
      → IsPaidAt b.dictionary b.deterministic (text_from b.dictionary x last) last to more
  pub only : OnlyLooked before after
  pub some : before.looked.value + (to - from) ≤ after.looked.value
  pub rests : to ≤ from → after.looked.value ≡ before.looked.value

-- What the next word costs: the search reads on to a place that is no further than the word needs; or to where it stands then.
abbrev pub CostsWord : Built → List ℕ → WordPlace → WordPlace → Option Occurrence → Steps → Steps → Type 0
CostsWord b x old new None before after = PaysForWords b x old.last old.at new.at before after
CostsWord b x old new (Some o) before after =
    (at : ℕ) × (o.end ≤ at) × (at ≤ word_reach old.kind b.dictionary.patterns o) × (at ≤ length x)
    × PaysForWords b x old.last old.at at before after

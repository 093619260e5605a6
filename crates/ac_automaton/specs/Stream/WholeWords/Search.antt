-- What a search of a stream for whole words keeps between its calls.
use Rattle.std.specs.Prelude.{◌≡◌, ℕ, ◌+◌, ◌*◌, ◌≤◌, max, Bool, true, false, IsTrue, List, [], ◌++◌, length, take, None}
use Rattle.ac_input.specs.declared.search.Anchored.TheVariants.{No}
use Rattle.ac_input.specs.declared.search.MatchKind.{MatchKind}
use Rattle.ac_input.specs.declared.search.MatchKind.TheVariants.{Standard}
use Rattle.ac_input.specs.declared.steps.Steps.{Steps}
use Rattle.ac_input.specs.Computed.{walk_among}
use Rattle.ac_input.specs.Dictionary.{Dictionary, whole}
use Rattle.ac_input.specs.Occurrence.{Occurrence}
use Rattle.ac_input.specs.Word.{OccursWhole, whole_occurrences}
use Rattle.ac_input.specs.Work.{longest, shortest}
use Rattle.ac_automaton.specs.Automaton.{Built}
use Rattle.ac_automaton.specs.InMemory.Overlapping.{IsPaidAt}
use Rattle.ac_automaton.specs.Stream.{StreamProgress, Words, again_for, end_of, items_of, read_by, room_of}
use Rattle.ac_automaton.specs.Stream.Devices.Moved.{AllFit}
use Rattle.ac_automaton.specs.Stream.WholeWords.{asked_for}
use Rattle.ac_automaton.specs.Stream.WholeWords.Held.{TextRead, text_of}
use Rattle.ac_automaton.specs.Words.{IsBestOpen, StandsForWords, text_from}
use Rattle.ac_automaton.specs.declared.automaton.Automaton.{Ghosts}
use Rattle.ac_automaton.specs.declared.words.WordPlace.{WordPlace}

-- ---- how far it has come

-- how far a search has come that returned these words
abbrev pub word_progress : Built → List (List ℕ) → List Occurrence → Bool → ℕ → WordPlace → ℕ → Steps → StreamProgress Words
word_progress b pieces given closed from p moved sums =
    record {
      built = asked_for p.kind b;
      pieces = pieces;
      closed = closed;
      given = given;
      from = from;
      at = p.at;
      last = p.last;
      looked = sums.looked.value;
      scanned = sums.scanned.value;
      moved = moved;
    }

-- the words of a text under a kind
abbrev pub words_in : MatchKind → Built → List ℕ → List Occurrence
words_in kind b x = items_of Words (asked_for kind b).dictionary x

-- how far a search has come, from the text that it holds and where it stands
abbrev pub words_come : Built → TextRead → WordPlace → StreamProgress Words
words_come b t p = word_progress b t.pieces (take t.returned (words_in p.kind b (text_of t))) t.closed t.from p t.moved t.sums

-- ---- what is kept

-- the words of a text that are left from a place on
abbrev pub remaining_words : Dictionary → MatchKind → List ℕ → ℕ → List Occurrence
remaining_words m kind x at = walk_among whole_occurrences kind (whole m x false) at None

-- Whatever is still read, the words that were not returned are those from where the search last began anew.
abbrev pub ContinuesWords : Dictionary → WordPlace → StreamProgress Words → Type 0
ContinuesWords m p s =
    (more : List ℕ) → (s.closed ≡ true → more ≡ [])
    → remaining_words m p.kind (read_by s ++ more) 0 ≡ s.given ++ remaining_words m p.kind (read_by s ++ more) p.last

-- Whatever is still read, a word that begins at the end of the last one or later begins where the search last began anew, or
-- later.
abbrev pub BeginsLater : Dictionary → WordPlace → StreamProgress Words → Type 0
BeginsLater m p s =
    (more : List ℕ) → (s.closed ≡ true → more ≡ []) → (o : Occurrence)
    → OccursWhole (text_from m (read_by s ++ more) (end_of s.given)) o → p.last ≤ o.start

-- Some looks are paid for by the bytes before where the search last began anew, those read again after words included. The
-- others are paid for by the bytes from there on.
pub record AreLooksPaid (b : Built) (p : WordPlace) (s : StreamProgress Words) : Type 0 where
  pub before : ℕ
  pub since : ℕ
  pub all : s.looked ≡ before + since
  pub twice : before ≤ 2 * (p.last + again_for p.kind (longest b.dictionary.patterns) 0 (length s.given))
  pub once : IsTrue b.deterministic
      → before ≤ p.last + again_for p.kind (longest b.dictionary.patterns) 0 (length s.given)
  pub paid : IsPaidAt b.dictionary b.deterministic (text_from b.dictionary (read_by s) p.last) p.last p.at since
  pub some : p.at ≤ s.looked

-- A search stands right in what was read: its automaton has the standard kind and no empty pattern, its best word isn't
-- decided, and the words that are left are those from where it last began anew.
pub record StandsInStream {S : Type 0} (A : Ghosts S) (a : S) (s : StreamProgress Words) (p : WordPlace) : Type 0 where
  pub standard : (A.built a).dictionary.kind ≡ Standard
  pub filled : 1 ≤ shortest (A.built a).dictionary.patterns
  pub stands : StandsForWords (A.built a).dictionary (A.Reaches a No) s.from (read_by s) p
  pub open_ : IsBestOpen A a p
  pub goes : ContinuesWords (A.built a).dictionary p s
  pub later : BeginsLater (A.built a).dictionary p s
  pub ended : end_of s.given ≤ p.last
  pub room : length (read_by s) ≤ s.from + room_of Words (A.built a)
  pub short : AllFit (room_of Words (A.built a)) s.pieces
  pub looks : AreLooksPaid (A.built a) p s
  pub scanned : s.scanned ≡ 0
  pub moved : 7 * s.moved ≤ length (read_by s)

-- The state that a search keeps between its calls is right.
pub record IsWordSearch {S : Type 0} (A : Ghosts S) (a : S) (s : StreamProgress Words) (t : TextRead) (p : WordPlace)
    : Type 0 where
  pub stands : StandsInStream A a s p
  pub number : length s.given ≡ t.returned
  pub keep : t.keep ≡ max (longest (A.built a).dictionary.patterns) 1 + 1

-- What a search of a stream for all whole words keeps between its calls.
use Rattle.std.specs.Prelude.{◌≡◌, ℕ, ◌+◌, ◌*◌, ◌≤◌, max, Bool, List, length, take}
use Rattle.ac_input.specs.declared.search.Anchored.TheVariants.{No}
use Rattle.ac_input.specs.declared.search.MatchKind.TheVariants.{Standard}
use Rattle.ac_input.specs.declared.steps.Steps.{Steps}
use Rattle.ac_input.specs.Occurrence.{Occurrence}
use Rattle.ac_input.specs.Work.{longest, shortest}
use Rattle.ac_automaton.specs.Automaton.{Built}
use Rattle.ac_automaton.specs.InMemory.Overlapping.{IsPaidAt}
use Rattle.ac_automaton.specs.ListedWords.{StandsForListed, word_listing}
use Rattle.ac_automaton.specs.Stream.{AllWords, StreamProgress, end_of, read_by, room_of}
use Rattle.ac_automaton.specs.Stream.Devices.Moved.{AllFit}
use Rattle.ac_automaton.specs.Stream.WholeWords.Held.{TextRead, text_of}
use Rattle.ac_automaton.specs.Words.{text_from}
use Rattle.ac_automaton.specs.declared.automaton.Automaton.{Ghosts}
use Rattle.ac_automaton.specs.declared.words.listed.ListedPlace.{ListedPlace}

-- how far a search has come that returned these words
abbrev pub all_words_at : Built → List (List ℕ) → List Occurrence → Bool → ℕ → ListedPlace → ℕ → Steps
    → StreamProgress AllWords
all_words_at b pieces given closed from p moved sums =
    record {
      built = b;
      pieces = pieces;
      closed = closed;
      given = given;
      from = from;
      at = p.at;
      last = p.at;
      looked = sums.looked.value;
      scanned = sums.scanned.value;
      moved = moved;
    }

-- how far a search has come, from the text that it holds and where it stands
abbrev pub all_words_come : Built → TextRead → ListedPlace → StreamProgress AllWords
all_words_come b t p =
    all_words_at b t.pieces (take t.returned (word_listing b.dictionary (text_of t))) t.closed t.from p t.moved t.sums

-- A search stands right in what was read: its automaton has the standard kind and no empty pattern, the words that were returned and
-- those of its state's list are all up to where it stands, and the bytes up to there pay for its looks.
pub record ListsInStream {S : Type 0} (A : Ghosts S) (a : S) (s : StreamProgress AllWords) (p : ListedPlace) : Type 0 where
  pub standard : (A.built a).dictionary.kind ≡ Standard
  pub filled : 1 ≤ shortest (A.built a).dictionary.patterns
  pub stands : StandsForListed (A.built a).dictionary (A.Reaches a No) (A.matches a) s.from s.closed (read_by s) s.given p
  pub ended : end_of s.given ≤ p.at
  pub room : length (read_by s) ≤ s.from + room_of AllWords (A.built a)
  pub short : AllFit (room_of AllWords (A.built a)) s.pieces
  pub paid : IsPaidAt (A.built a).dictionary (A.built a).deterministic (text_from (A.built a).dictionary (read_by s) 0) 0 p.at
      s.looked
  pub some : p.at ≤ s.looked
  pub scanned : s.scanned ≡ 0
  pub moved : 7 * s.moved ≤ length (read_by s)

-- The state that a search keeps between its calls is right.
pub record IsAllWordsSearch {S : Type 0} (A : Ghosts S) (a : S) (s : StreamProgress AllWords) (t : TextRead)
    (p : ListedPlace) : Type 0 where
  pub stands : ListsInStream A a s p
  pub number : length s.given ≡ t.returned
  pub keep : t.keep ≡ max (longest (A.built a).dictionary.patterns) 1 + 1

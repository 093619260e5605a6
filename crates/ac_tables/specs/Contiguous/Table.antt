-- What the words of a contiguous automaton hold.
use Rattle.std.specs.Prelude.{◌≡◌, ◌≢◌, ◌↔◌, ◌⊎◌, ℕ, zero, suc, ◌+◌, ◌<◌, ◌≤◌, nat_lt, ◌==◌, Bool, true, IsTrue, if◌then◌else◌, map, List, [], ◌++◌, length, slice_get, Option, Some, None}
use Rattle.ac_input.specs.Number.{greatest_number}
use Rattle.ac_input.specs.Alphabet.{class, alphabet_len}
use Rattle.ac_input.specs.Candidate.{Filter}
use Rattle.ac_input.specs.Dictionary.{Dictionary}
use Rattle.ac_input.specs.Failure.{IsList}
use Rattle.ac_input.specs.Limits.{IsWithinLimits}
use Rattle.ac_input.specs.Pairing.{IsPairing}
use Rattle.ac_automaton.specs.Named.{nowhere, Naming, AreLinked, IsFirst}
use Rattle.ac_noncontiguous.specs.declared.nfa.NFA.{NFA}
use Rattle.ac_noncontiguous.specs.Nfa.{IsHeldFor}
use Rattle.ac_noncontiguous.specs.Nfa.ReadCalls.{state_len, fail_in, depth_in, edges_in}
use Rattle.ac_noncontiguous.specs.Nfa.Reads.{matches_at}
use Rattle.ac_tables.specs.Source.{AreBytesAlone, AreClassesFor}
use Rattle.ac_tables.specs.Contiguous.Words.{StateParts, next_by, word_count, words_of, AreWordsAt}
use Rattle.ac_tables.specs.Contiguous.Rows.{AreRowsIfAny}
use Rattle.ac_tables.specs.declared.contiguous.rows.Rows.{Rows}
use Rattle.ac_tables.specs.declared.contiguous.table.Table.{Table}

-- ---- the words as they are made from an automaton

-- a transition, with its byte's class and the place of the next state
abbrev pub placed_edge : List ℕ → (ℕ → ℕ) → ℕ × ℕ → ℕ × ℕ
placed_edge classes place edge = (class classes edge.0, place edge.1)

-- the parts of a state, given the places of all states
abbrev pub parts_of : NFA → ℕ → List ℕ → (ℕ → ℕ) → ℕ → StateParts
parts_of nfa dense_depth classes place sid = record {
  shallow = nat_lt (depth_in nfa sid) dense_depth;
  fail = place (fail_in nfa sid);
  edges = map (placed_edge classes place) (edges_in nfa sid);
  matches = matches_at nfa sid;
}

-- how many words a state has; the fail state has none
abbrev pub len_at : NFA → ℕ → List ℕ → ℕ → ℕ
len_at nfa dense_depth classes sid =
    if sid == nowhere then 0 else word_count (alphabet_len classes) (nat_lt (depth_in nfa sid) dense_depth)
    (length (edges_in nfa sid)) (length (matches_at nfa sid))

-- how many words the first n states have
abbrev pub len_before : NFA → ℕ → List ℕ → ℕ → ℕ
len_before nfa dense_depth classes zero = 0
len_before nfa dense_depth classes (suc i) = len_before nfa dense_depth classes i + len_at nfa dense_depth classes i

-- The place of a state is that of its first word. The fail state's is its number, where nothing begins.
abbrev pub place_in : NFA → ℕ → List ℕ → ℕ → ℕ
place_in nfa dense_depth classes sid = if sid == nowhere then nowhere else len_before nfa dense_depth classes sid

-- the words of a state of the automaton; the fail state has none
abbrev pub words_at : NFA → ℕ → List ℕ → ℕ → List ℕ
words_at nfa dense_depth classes sid =
    if sid == nowhere then [] else words_of (alphabet_len classes)
    (parts_of nfa dense_depth classes (place_in nfa dense_depth classes) sid)

-- the words of the first n states, one state after another
abbrev pub words_before : NFA → ℕ → List ℕ → ℕ → List ℕ
words_before nfa dense_depth classes zero = []
words_before nfa dense_depth classes (suc i) =
    words_before nfa dense_depth classes i ++ words_at nfa dense_depth classes i

-- the words are those of an automaton
abbrev pub AreWordsOf : NFA → ℕ → List ℕ → List ℕ → Type 0
AreWordsOf nfa dense_depth classes words = words ≡ words_before nfa dense_depth classes (state_len nfa)

-- the first word of some state would stand past the greatest number; the fail state has none
abbrev pub ArePlacesTooGreat : NFA → ℕ → List ℕ → Type 0
ArePlacesTooGreat nfa dense_depth classes =
    (sid : ℕ) × (sid < state_len nfa) × (sid ≢ nowhere) × (greatest_number < len_before nfa dense_depth classes sid)

-- the contiguous automaton made from this one, in the classes that it takes, is too large
abbrev pub IsContiguousTooLarge : NFA → ℕ → Bool → Type 0
IsContiguousTooLarge nfa dense_depth byte_classes =
    (classes : List ℕ) × AreClassesFor nfa byte_classes classes × ArePlacesTooGreat nfa dense_depth classes

-- ---- the words as a search reads them

-- The words are those of a dictionary, by this naming of the places. At each place stand the words of the state with
-- these parts.
pub record AreStates (m : Dictionary) (table : Table) (names : Naming) (parts : ℕ → StateParts) : Type 0 where
  pub alphabet : table.alphabet_len ≡ alphabet_len table.classes
  pub few_classes : table.alphabet_len ≤ 256
  pub alone : AreBytesAlone m table.classes
  pub small : (anchored : Bool) (sid : ℕ) → IsTrue (names.met anchored sid) → sid ≤ greatest_number
  pub stand : (anchored : Bool) (sid : ℕ) → IsTrue (names.met anchored sid)
      → AreWordsAt table.words.items sid (words_of table.alphabet_len (parts sid))
  pub fits : (anchored : Bool) (sid k : ℕ) (edge : ℕ × ℕ) → IsTrue (names.met anchored sid)
      → slice_get (parts sid).edges k ≡ Some edge → edge.0 < table.alphabet_len
  pub linked : AreLinked m names table.start (λ sid byte. next_by (parts sid).edges (class table.classes byte))
      (λ sid. (parts sid).fail)
  pub dead : (anchored : Bool) (sid : ℕ) → IsTrue (names.met anchored sid) → (names.text sid ≡ None) ↔ (sid ≡ 0)
  pub dead_met : IsTrue (names.met true 0)
  pub first : (anchored : Bool) → IsFirst names anchored (if anchored then table.start_anchored else table.start)
  pub starting : (anchored : Bool) (sid : ℕ) → IsTrue (names.met anchored sid)
      → (names.text sid ≡ Some []) ↔ ((sid ≡ table.start) ⊎ (sid ≡ table.start_anchored))
  pub lists : (anchored : Bool) (sid : ℕ) (text : List ℕ) → IsTrue (names.met anchored sid) → names.text sid ≡ Some text
      → IsList m text (parts sid).matches
  pub none : (anchored : Bool) (sid : ℕ) → IsTrue (names.met anchored sid) → sid ≡ 0 → (parts sid).matches ≡ []
  pub few : (anchored : Bool) (sid : ℕ) → IsTrue (names.met anchored sid)
      → length (parts sid).matches ≤ greatest_number + 1
  pub matching : (anchored : Bool) (sid : ℕ) → IsTrue (names.met anchored sid) → sid ≢ 0
      → ((parts sid).matches ≢ []) ↔ (sid ≤ table.max_match)
  pub greatest : (table.max_match < table.start) ⊎ (table.max_match ≡ table.start_anchored)
  pub before : (anchored : Bool) (sid : ℕ) → IsTrue (names.met anchored sid) → sid ≢ 0 → sid < table.start
      → sid ≤ table.max_match
  pub between : (anchored : Bool) (sid : ℕ) → IsTrue (names.met anchored sid) → sid < table.start_anchored
      → sid ≤ table.start
  pub past : (1 < table.start) × (table.start < table.start_anchored)

-- by some naming the words are those of the dictionary, and by that naming so are the rows, if there are any
abbrev pub AreSomeStates : Dictionary → Table → Option Rows → Type 0
AreSomeStates m table rows =
    ∥ ((names : Naming) × (parts : ℕ → StateParts) × AreStates m table names parts
    × AreRowsIfAny m table.classes names rows) ∥₁

-- ---- what the automaton stores beside its words

-- The words, and the rows and the prefilter if any, are those of the dictionary, which is within the limits and has a
-- valid pairing.
pub record AreContiguousParts (m : Dictionary) (table : Table) (rows : Option Rows)
    (prefilter : Option Filter) : Type 0 where
  pub within : ∥ IsWithinLimits m ∥₁
  pub stands : AreSomeStates m table rows
  pub held : IsHeldFor m prefilter
  pub paired : IsPairing m.pairing

-- The results of look-ups in the words of a contiguous automaton.
use Rattle.std.specs.Prelude.{◌≡◌, ◌≢◌, ℕ, ◌+◌, ◌-◌, ◌/◌, ◌%◌, ◌<◌, ◌≤◌, ◌==◌, ◌&&◌, nat_le, not, if◌then◌else◌, List, [], ◌∷◌, length, take, drop, slice_get, slice_index, Option, Some, None}
use Rattle.std.specs.Int.{w32, to_le_bytes}
use Rattle.ac_input.specs.Number.{greatest_number}
use Rattle.ac_input.specs.Alphabet.{class, alphabet_len}
use Rattle.ac_automaton.specs.Named.{nowhere}
use Rattle.ac_tables.specs.declared.contiguous.table.Table.{Table}
use Rattle.ac_tables.specs.Contiguous.Words.{StateParts, dense_kind, one_kind, kind_count, head_len, next_by, one_pattern, words_of, AreWordsAt}

-- ---- classes packed in words

-- the first place of the wanted byte among some bytes, if it is there
abbrev pub IsFirstPlace : List ℕ → ℕ → Option ℕ → Type 0
IsFirstPlace bytes wanted None = (k : ℕ) → k < length bytes → slice_index bytes k ≢ wanted
IsFirstPlace bytes wanted (Some at) =
    (at < length bytes) × (slice_index bytes at ≡ wanted) × ((k : ℕ) → k < at → slice_index bytes k ≢ wanted)

-- ---- one state

-- A state stands at a place: its words are there. The class of each transition is one of the alphabet, and each byte
-- leads to a number that isn't too great.
pub record IsStateAt (table : Table) (sid : ℕ) (s : StateParts) : Type 0 where
  pub stands : AreWordsAt table.words.items sid (words_of table.alphabet_len s)
  pub alphabet : table.alphabet_len ≡ alphabet_len table.classes
  pub few_classes : table.alphabet_len ≤ 256
  pub fits : (k : ℕ) (edge : ℕ × ℕ) → slice_get s.edges k ≡ Some edge → edge.0 < table.alphabet_len
  pub nexts : (byte : ℕ) → byte < 256 → next_by s.edges (class table.classes byte) ≤ greatest_number

-- the state at the place has this many transitions with packed classes: its kind is that count
pub record IsSparseAt (table : Table) (sid len : ℕ) : Type 0 where
  pub kind : slice_index table.words.items sid % kind_count ≡ len
  pub dense : len ≢ dense_kind
  pub one : len ≢ one_kind

-- where a byte leads from a state by its transitions
abbrev pub ByteLeadsTo : Table → ℕ → ℕ → ℕ → Type 0
ByteLeadsTo table sid byte next =
    ((s : StateParts) → IsStateAt table sid s → next ≡ next_by s.edges (class table.classes byte))

-- the class of a transition that a state lists: that of a single one stands above the kind, of others four stand in a word
abbrev pub edge_class : Table → ℕ → ℕ → ℕ
edge_class table sid at =
    if slice_index table.words.items sid % kind_count == one_kind then slice_index table.words.items sid / kind_count
    else slice_index (to_le_bytes w32 (slice_index table.words.items (sid + head_len + at / 4))) (at % 4)

-- The words of the state at a place list so many transitions with their classes. By no other class it leads on.
pub record ListsEdges (table : Table) (sid len : ℕ) : Type 0 where
  pub there : (at : ℕ) → at < len → sid + head_len + at / 4 < length table.words.items
  pub classes : (at : ℕ) → at < len → edge_class table sid at < alphabet_len table.classes
  pub others : (byte : ℕ) → ((at : ℕ) → at < len → edge_class table sid at ≢ class table.classes byte)
      → ByteLeadsTo table sid byte nowhere

-- the state at a place fails to another
abbrev pub FailsAt : Table → ℕ → ℕ → Type 0
FailsAt table sid fail = (s : StateParts) → IsStateAt table sid s → fail ≡ s.fail

-- The byte leads from the unanchored start back to it, and no pattern matches there.
pub record IsIdleAt (table : Table) (byte : ℕ) : Type 0 where
  pub plain : table.max_match < table.start
  pub stays : ByteLeadsTo table table.start byte table.start

-- how many words the transitions of a state have, by its kind
abbrev pub transitions_len : ℕ → ℕ → ℕ
transitions_len alphabet kind =
    if kind == dense_kind then alphabet else if kind == one_kind then 1 else kind + (kind + 3) / 4

-- where the patterns of a state begin
abbrev pub list_place : Table → ℕ → ℕ
list_place table sid =
    sid + head_len + transitions_len table.alphabet_len (slice_index table.words.items sid % kind_count)

-- the patterns whose words begin at a place
abbrev pub list_from : List ℕ → ℕ → List ℕ
list_from words at =
    if nat_le one_pattern (slice_index words at) then (slice_index words at - one_pattern) ∷ []
    else take (slice_index words at) (drop (at + 1) words)

-- the patterns of a state that has some
abbrev pub listed_at : Table → ℕ → List ℕ
listed_at table sid = list_from table.words.items (list_place table sid)

-- the patterns that match at a state; none at the dead state, and none past the last state that matches
abbrev pub matches_by : Table → ℕ → List ℕ
matches_by table sid = if not (sid == 0) && nat_le sid table.max_match then listed_at table sid else []

-- The state at the place has patterns, and their words are within the table.
pub record HasWordList (table : Table) (sid : ℕ) : Type 0 where
  pub first : sid < length table.words.items
  pub list : list_place table sid < length table.words.items
  pub rest : slice_index table.words.items (list_place table sid) < one_pattern
      → list_place table sid + 1 + slice_index table.words.items (list_place table sid) ≤ length table.words.items

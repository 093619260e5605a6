-- What the table of a DFA holds.
use Rattle.std.specs.Prelude.{◌≡◌, ◌≢◌, ◌↔◌, ◌⊎◌, ℕ, zero, suc, ◌+◌, ◌-◌, ◌*◌, ◌/◌, ◌^◌, ◌<◌, ◌≤◌, nat_le, ◌==◌, ◌&&◌, not, Bool, true, false, IsTrue, if◌then◌else◌, List, [], length, take, drop, slice_index, Option, Some, None}
use Rattle.ac_input.specs.declared.search.Anchored.{Anchored}
use Rattle.ac_input.specs.declared.search.StartKind.{StartKind}
use Rattle.ac_input.specs.declared.search.StartKind.TheVariants as starts
use Rattle.ac_input.specs.Alphabet.{class, alphabet_len, IsLeastPowerOfTwo}
use Rattle.ac_input.specs.Candidate.{Filter}
use Rattle.ac_input.specs.Dfa.{Serves, dfa_states}
use Rattle.ac_input.specs.Dictionary.{Dictionary}
use Rattle.ac_input.specs.Failure.{IsList}
use Rattle.ac_input.specs.Input.{is_anchored}
use Rattle.ac_input.specs.Pairing.{IsPairing}
use Rattle.ac_automaton.specs.Named.{Naming, IsStep, IsFirst}
use Rattle.ac_noncontiguous.specs.declared.nfa.NFA.{NFA}
use Rattle.ac_noncontiguous.specs.Nfa.{IsHeldFor}
use Rattle.ac_noncontiguous.specs.Nfa.ReadCalls.{state_len, special_in, MayBeMet, LeadsIn}
use Rattle.ac_tables.specs.declared.dfa.lists.Lists.{Lists}
use Rattle.ac_tables.specs.declared.dfa.table.Table.{Table}
use Rattle.ac_tables.specs.Source.{AreBytesAlone}

-- ---- the rows

-- The row of a state. With one start kind it is the state's number. With both, each state has a row for either
-- anchoring, but for the dead state, the fail state and the two starts. The unanchored start's row comes right before
-- the anchored one's.
abbrev pub dfa_row_of : StartKind → ℕ → Bool → ℕ → ℕ
dfa_row_of starts.Unanchored start anchored i = i
dfa_row_of starts.Anchored start anchored i = i
dfa_row_of starts.Both start false i = if nat_le i 1 then i else if nat_le i start then 2 * i - 2 else 2 * i - 4
dfa_row_of starts.Both start true i = if nat_le i 1 then i else if nat_le start i then 2 * i - 3 else 2 * i - 1

-- the number of a state is where its row begins
abbrev pub dfa_number_of : StartKind → ℕ → ℕ → Bool → ℕ → ℕ
dfa_number_of kind start stride anchored i = dfa_row_of kind start anchored i * stride

-- ---- the table, made from an automaton

-- the cell of a state's row for a byte holds the number of the state to which the byte leads
abbrev pub IsCell : NFA → StartKind → ℕ → ℕ → Anchored → ℕ → ℕ → ℕ → Type 0
IsCell nfa kind stride cell anchored sid byte next =
    LeadsIn nfa anchored sid byte next
    × (cell ≡ dfa_number_of kind (special_in nfa).start_unanchored_id stride (is_anchored anchored) next)

-- The transitions are those of an automaton. Each state has a row, as long as the least power of two that is enough for
-- the classes. A row has the next state for each class, all failures followed.
pub record AreTransitionsOf (nfa : NFA) (kind : StartKind) (classes : List ℕ) (stride : ℕ)
    (transitions : List ℕ) : Type 0 where
  pub least : IsLeastPowerOfTwo (alphabet_len classes) stride
  pub len : length transitions ≡ dfa_states kind (state_len nfa) * stride
  pub cells : (anchored : Anchored) (sid byte : ℕ) → Serves kind anchored → MayBeMet nfa anchored sid → byte < 256
      → ∥ ((next : ℕ) × IsCell nfa kind stride
      (slice_index transitions
      (dfa_number_of kind (special_in nfa).start_unanchored_id stride (is_anchored anchored) sid + class classes byte))
      anchored sid byte next) ∥₁

-- ---- the table as a search reads it

-- where list k begins: at the end of the list before it
abbrev pub list_start : Lists → ℕ → ℕ
list_start lists zero = 0
list_start lists (suc k) = slice_index lists.ends.items k

-- the patterns of list k
abbrev pub dfa_list_of : Lists → ℕ → List ℕ
dfa_list_of lists k =
    take (slice_index lists.ends.items k - list_start lists k) (drop (list_start lists k) lists.patterns.items)

-- the lists stand one after another
pub record AreListRanges (lists : Lists) : Type 0 where
  pub rising : (k : ℕ) → k < length lists.ends.items → list_start lists k ≤ slice_index lists.ends.items k
  pub within : (k : ℕ) → k < length lists.ends.items → slice_index lists.ends.items k ≤ length lists.patterns.items

-- how long a row is
abbrev pub stride_of : Table → ℕ
stride_of table = 2 ^ table.stride2

-- which of the lists belongs to a row; with both start kinds, the two rows of a state share a list
abbrev pub list_index : StartKind → ℕ → ℕ
list_index starts.Both row = (row - 2) / 2
list_index starts.Unanchored row = row - 2
list_index starts.Anchored row = row - 2

-- the patterns that match at a number; none at the dead state, and none past the last state that matches
abbrev pub dfa_matches_by : Table → ℕ → List ℕ
dfa_matches_by table sid =
    if not (sid == 0) && nat_le sid table.max_match
    then dfa_list_of table.lists (list_index table.kind (sid / stride_of table)) else []

-- the start of searches of this anchoring
abbrev pub start_by : Table → Bool → ℕ
start_by table false = table.start
start_by table true = table.start_anchored

-- The table is that of a dictionary, by this naming of its numbers. Row 1 is that of the fail state, which no search
-- meets. The anchored start's row comes right after the unanchored one's. Of the numbers that unanchored searches
-- reach, only the unanchored start stands for the empty text.
pub record AreDfaRows (m : Dictionary) (table : Table) (names : Naming) : Type 0 where
  pub classes : (byte : ℕ) → byte < 256 → class table.classes byte < stride_of table
  pub alone : AreBytesAlone m table.classes
  pub within : (anchored : Bool) (sid : ℕ) → IsTrue (names.met anchored sid)
      → (sid + stride_of table ≤ length table.trans.items) × ((sid ≡ 0) ⊎ (2 * stride_of table ≤ sid))
  pub rows : (anchored : Bool) (sid : ℕ) → IsTrue (names.met anchored sid) → (row : ℕ) × (sid ≡ row * stride_of table)
  pub dead : (anchored : Bool) (sid : ℕ) → IsTrue (names.met anchored sid) → (names.text sid ≡ None) ↔ (sid ≡ 0)
  pub steps : (anchored : Anchored) (sid byte : ℕ) → Serves table.kind anchored
      → IsTrue (names.met (is_anchored anchored) sid) → byte < 256
      → IsStep m names (is_anchored anchored) sid byte (slice_index table.trans.items (sid + class table.classes byte))
  pub first : (anchored : Anchored) → Serves table.kind anchored
      → IsFirst names (is_anchored anchored) (start_by table (is_anchored anchored))
  pub starting : (anchored : Bool) (sid : ℕ) → IsTrue (names.met anchored sid)
      → (names.text sid ≡ Some []) ↔ ((sid ≡ table.start) ⊎ (sid ≡ table.start_anchored))
  pub lists : (anchored : Bool) (sid : ℕ) (text : List ℕ) → IsTrue (names.met anchored sid) → names.text sid ≡ Some text
      → IsList m text (dfa_matches_by table sid)
  pub matching : (anchored : Bool) (sid : ℕ) → IsTrue (names.met anchored sid) → sid ≢ 0
      → (dfa_matches_by table sid ≢ []) ↔ (sid ≤ table.max_match)
  pub listed : (anchored : Bool) (sid : ℕ) → IsTrue (names.met anchored sid) → sid ≢ 0 → sid ≤ table.max_match
      → list_index table.kind (sid / stride_of table) < length table.lists.ends.items
  pub ranges : AreListRanges table.lists
  pub unanchored : names.met true table.start ≡ false
  pub only : (sid : ℕ) → IsTrue (names.met false sid) → names.text sid ≡ Some [] → sid ≡ table.start
  pub greatest : (table.max_match + stride_of table ≡ table.start) ⊎ (table.max_match ≡ table.start_anchored)
  pub wide : table.stride2 ≤ 8
  pub starts : (row : ℕ) × (2 ≤ row) × (table.start ≡ row * stride_of table)
      × (table.start_anchored ≡ (row + 1) * stride_of table)
  pub known : (k : ℕ) → k < length table.lists.patterns.items
      → slice_index table.lists.patterns.items k < length m.patterns

-- ---- what the automaton stores beside its table

-- the table and the prefilter, if any, are those of the dictionary, which has a valid pairing
pub record AreDfaParts (m : Dictionary) (table : Table) (prefilter : Option Filter) : Type 0 where
  pub stands : (∥ ((names : Naming) × AreDfaRows m table names) ∥₁)
  pub held : IsHeldFor m prefilter
  pub paired : IsPairing m.pairing

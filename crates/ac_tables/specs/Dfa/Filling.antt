-- How the rows of a DFA are filled.
use Rattle.std.specs.Prelude.{◌≡◌, ◌≢◌, ◌⊎◌, ℕ, ◌+◌, ◌-◌, ◌*◌, ◌<◌, ◌≤◌, ◌==◌, if◌then◌else◌, Bool, true, false, List, length, slice_get, slice_index, Some}
use Rattle.ac_input.specs.Number.{greatest_number}
use Rattle.ac_input.specs.declared.search.Anchored.{Anchored}
use Rattle.ac_input.specs.declared.search.Anchored.TheVariants.{No, Yes}
use Rattle.ac_input.specs.declared.search.StartKind.{StartKind}
use Rattle.ac_input.specs.Alphabet.{class}
use Rattle.ac_input.specs.Dfa.{Serves, dfa_states}
use Rattle.ac_input.specs.Input.{is_anchored}
use Rattle.ac_input.specs.Pairing.{IsPairing}
use Rattle.ac_noncontiguous.specs.declared.error.BuildErrorKind.{BuildErrorKind}
use Rattle.ac_noncontiguous.specs.declared.error.BuildErrorKind.TheVariants.{StateIDOverflow}
use Rattle.ac_noncontiguous.specs.declared.nfa.NFA.{NFA}
use Rattle.ac_noncontiguous.specs.Nfa.Reads.{dictionary}
use Rattle.ac_noncontiguous.specs.Nfa.ReadCalls.{state_len, depth_in, special_in, classes_in, MayBeMet}
use Rattle.ac_input.specs.Alphabet.Classes.{AreByteClasses}
use Rattle.ac_noncontiguous.specs.Nfa.{AreTables}
use Rattle.ac_tables.specs.Dfa.Table.{dfa_number_of, IsCell}

-- ---- the size

-- the error that is returned if the last state's number is past the greatest
abbrev pub IsOverflow : ℕ → BuildErrorKind → Type 0
IsOverflow last (StateIDOverflow max requested) = (max ≡ greatest_number) × (max < requested) × (greatest_number < last)
IsOverflow last other = ⊥

-- ---- what is filled

-- where the rows of an automaton's states begin, and which byte classes they are laid out over
pub record RowPlan : Type 0 where
  pub nfa : NFA
  pub kind : StartKind
  pub classes : List ℕ
  pub stride : ℕ

-- where the row of a state begins, for searches of this anchoring
abbrev pub number_in : RowPlan → Anchored → ℕ → ℕ
number_in p anchored sid =
    dfa_number_of p.kind (special_in p.nfa).start_unanchored_id p.stride (is_anchored anchored) sid

-- What all rows need of an automaton: its states stand for texts, and both starts are states past the first two. Each
-- byte is the partner of its partner, and the classes are those of the dictionary.
pub record IsSource (nfa : NFA) : Type 0 where
  pub stand : ∥ ((text : ℕ → List ℕ) × AreTables (dictionary nfa) text nfa.tables) ∥₁
  pub starts : (1 < (special_in nfa).start_unanchored_id) × ((special_in nfa).start_unanchored_id + 1 < state_len nfa)
  pub paired : IsPairing (dictionary nfa).pairing
  pub classes : (∥ AreByteClasses (dictionary nfa) (classes_in nfa) ∥₁)

-- Each class has a place in a row. Bytes of one class share one of the automaton's own classes too. The last row's
-- number isn't too great.
pub record IsFit (p : RowPlan) : Type 0 where
  pub source : IsSource p.nfa
  pub wide : p.stride ≤ 256
  pub letters : (byte : ℕ) → byte < 256 → class p.classes byte < p.stride
  pub finer : (b c : ℕ) → b < 256 → c < 256 → class p.classes b ≡ class p.classes c
      → class (classes_in p.nfa) b ≡ class (classes_in p.nfa) c
  pub few : (dfa_states p.kind (state_len p.nfa) - 1) * p.stride ≤ greatest_number

-- ---- one row

-- the row of a state is right: each byte's entry is the number of the state to which it leads
abbrev pub IsRowRight : RowPlan → Anchored → ℕ → List ℕ → Type 0
IsRowRight p anchored sid trans =
    (byte : ℕ) → byte < 256 → (next : ℕ)
    × IsCell p.nfa p.kind p.stride (slice_index trans (number_in p anchored sid + class p.classes byte)) anchored sid
    byte next

-- the `stride` entries from `at` on hold nothing but the dead state
abbrev pub IsUnwritten : ℕ → ℕ → List ℕ → Type 0
IsUnwritten stride at trans = (x : ℕ) → x < stride → slice_index trans (at + x) ≡ 0

-- only the `stride` entries from `at` on have changed
pub record IsChangedIn (stride at : ℕ) (old new : List ℕ) : Type 0 where
  pub len : length new ≡ length old
  pub before : (k : ℕ) → k < at → slice_index new k ≡ slice_index old k
  pub after : (k : ℕ) → at + stride ≤ k → slice_index new k ≡ slice_index old k

-- what is written for a transition: the number of its next state, or the dead state where it leads nowhere
abbrev pub entry_in : RowPlan → Anchored → ℕ → ℕ
entry_in p anchored next = if next == 1 then 0 else number_in p anchored next

-- A class has the entry of a transition whose byte is in the class. If no transition has one, it keeps its old entry.
pub data IsEntry (p : RowPlan) (anchored : Anchored) (edges : List (ℕ × ℕ)) (x old new : ℕ) : Type 0 where
  Written : (k byte next : ℕ) → ((slice_get edges k ≡ Some (byte, next)) × (class p.classes byte ≡ x))
      → new ≡ entry_in p anchored next → IsEntry p anchored edges x old new
  Kept : ((k byte next : ℕ) → ¬ ((slice_get edges k ≡ Some (byte, next)) × (class p.classes byte ≡ x))) → new ≡ old
      → IsEntry p anchored edges x old new

-- some transitions are written over a row
pub record AreWritten (p : RowPlan) (anchored : Anchored) (at : ℕ) (edges : List (ℕ × ℕ))
    (old new : List ℕ) : Type 0 where
  pub alone : IsChangedIn p.stride at old new
  pub entries : (x : ℕ) → x < p.stride
      → IsEntry p anchored edges x (slice_index old (at + x)) (slice_index new (at + x))

-- ---- all rows

-- State `plain` has the right row for unanchored searches, and state `anchored` has the right row for anchored ones, if
-- these searches are served. All other rows are unchanged.
pub record AreRowsFilled (p : RowPlan) (plain anchored : ℕ) (old new : List ℕ) : Type 0 where
  pub len : length new ≡ length old
  pub row : Serves p.kind No → IsRowRight p No plain new
  pub row_anchored : Serves p.kind Yes → IsRowRight p Yes anchored new
  pub others : (a : Anchored) (sid x : ℕ) → Serves p.kind a → MayBeMet p.nfa a sid → (a ≡ No → sid ≢ plain)
      → (a ≡ Yes → sid ≢ anchored) → x < p.stride
      → slice_index new (number_in p a sid + x) ≡ slice_index old (number_in p a sid + x)

-- The row of a state is filled: the state comes before `low`, or is the unanchored start or after it and before `high`.
abbrev pub IsDone : ℕ → ℕ → ℕ → ℕ → Type 0
IsDone start low high sid = (sid < low) ⊎ ((start ≤ sid) × (sid < high))

-- the filled rows are right, and all others are blank
pub record AreRowsUpTo (p : RowPlan) (low high : ℕ) (trans : List ℕ) : Type 0 where
  pub len : length trans ≡ dfa_states p.kind (state_len p.nfa) * p.stride
  pub right : (a : Anchored) (sid : ℕ) → Serves p.kind a → MayBeMet p.nfa a sid
      → IsDone (special_in p.nfa).start_unanchored_id low high sid → IsRowRight p a sid trans
  pub blank : (a : Anchored) (sid : ℕ) → Serves p.kind a → MayBeMet p.nfa a sid
      → (¬ IsDone (special_in p.nfa).start_unanchored_id low high sid) → IsUnwritten p.stride (number_in p a sid) trans

-- The next state to be filled is the first run's, if that has one no deeper than the second run's, or if the second run
-- has ended.
pub record IsMerged (nfa : NFA) (start low high : ℕ) (first : Bool) : Type 0 where
  pub yes : first ≡ true → (low < start) × ((high < state_len nfa) → depth_in nfa low ≤ depth_in nfa high)
  pub no : first ≡ false → (high < state_len nfa) × ((low < start) → depth_in nfa high < depth_in nfa low)

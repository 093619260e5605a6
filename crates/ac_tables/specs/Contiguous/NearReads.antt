-- How the rows of the states near the start are made, and what a look-up by a number gives.
use Rattle.std.specs.Prelude.{◌≡◌, ◌≢◌, ◌⊎◌, ℕ, ◌+◌, ◌*◌, ◌/◌, ◌<◌, ◌≤◌, List, [], ◌∷◌, ◌++◌, length, slice_index, slice_set}
use Rattle.std.specs.List.{All}
use Rattle.ac_input.specs.Number.{greatest_number}
use Rattle.ac_input.specs.Alphabet.{class, alphabet_len}
use Rattle.ac_input.specs.declared.search.Anchored.TheVariants.{No}
use Rattle.ac_input.specs.declared.steps.Steps.{Steps}
use Rattle.ac_automaton.specs.Automaton.{IsReadCost, Leads}
use Rattle.ac_automaton.specs.Named.{nowhere}
use Rattle.ac_tables.specs.declared.contiguous.NFA.{NFA}
use Rattle.ac_tables.specs.declared.contiguous.rows.Rows.{Rows}
use Rattle.ac_tables.specs.Contiguous.Cut.{Rise}
use Rattle.ac_tables.specs.Contiguous.Filled.{entry_bytes, index_block, index_entries}
use Rattle.ac_tables.specs.Contiguous.Near.{IsNumber, numbered_place, LeadsToNumber}
use Rattle.ac_tables.specs.Contiguous.Reads.{contiguous_built_as, contiguous_dictionary, IsContiguousRead}
use Rattle.ac_tables.specs.Contiguous.Rows.{bytes_of_rows, row_len}
use Rattle.ac_tables.specs.Contiguous.WordReads.{FailsAt, edge_class}

-- ---- look-ups

-- A byte leads an unanchored search from the state of a number to that of the next, and this is the cost of the look-up.
pub record LeadsByNumber (nfa : NFA) (rows : Rows) (number byte next : ℕ) (before after : Steps) : Type 0 where
  pub one : IsNumber rows next
  pub leads : Leads (IsContiguousRead nfa No) (numbered_place rows number) (byte ∷ []) (numbered_place rows next)
  pub cost : IsReadCost (contiguous_built_as nfa) (IsContiguousRead nfa) No (numbered_place rows number) (byte ∷ []) before after

-- ---- how large they are

-- to which depth states have rows, at most, where not all states have rows
abbrev pub near_depth : ℕ
near_depth = 16

-- which part of the memory for rows these take, at most
abbrev pub near_part : ℕ
near_part = 2

-- The state at a place is at most so deep: an unanchored search comes to it by reading no more than so many bytes.
abbrev pub IsMetWithin : NFA → ℕ → ℕ → Type 0
IsMetWithin nfa depth place = ∥ ((text : List ℕ) × (length text ≤ depth) × IsContiguousRead nfa No text place) ∥₁

-- Rows of states near the start: none is of a state deeper than that, and they take at most `memory` bytes.
pub record AreNearWithin (nfa : NFA) (memory : ℕ) (rows : Rows) : Type 0 where
  pub near : (i : ℕ) → i < length rows.places.items → IsMetWithin nfa near_depth (slice_index rows.places.items i)
  pub small : bytes_of_rows rows ≤ memory

-- ---- how they are made

-- at the number of a class stands a byte of it
pub record IsByteOfClass (classes bytes : List ℕ) (k : ℕ) : Type 0 where
  pub within : k < length bytes
  pub small : slice_index bytes k < 256
  pub same : class classes (slice_index bytes k) ≡ k

-- for each class a byte of it, at the number of the class
pub record AreBytesOf (classes bytes : List ℕ) : Type 0 where
  pub counted : length bytes ≡ alphabet_len classes
  pub same : (byte : ℕ) → byte < 256 → IsByteOfClass classes bytes (class classes byte)
  pub own : (k : ℕ) → k < length bytes → IsByteOfClass classes bytes k

-- Places of states near the start, not more than `most`.
pub record AreFound (nfa : NFA) (most : ℕ) (found : List ℕ) : Type 0 where
  pub few : length found ≤ most
  pub near : All (IsMetWithin nfa near_depth) found

-- Places of states that are found by depth, not more than `most`: those of the first so many states are at most so
-- deep, and the others at most one deeper.
pub record AreFoundBy (nfa : NFA) (most first depth : ℕ) (found : List ℕ) : Type 0 where
  pub few : length found ≤ most
  pub within : first ≤ length found
  pub near : (i : ℕ) → i < first → IsMetWithin nfa depth (slice_index found i)
  pub all : (i : ℕ) → i < length found → IsMetWithin nfa (depth + 1) (slice_index found i)

-- Places were put after those that were found: of states to which transitions lead from the one at a place.
abbrev pub AreNextsFound : NFA → ℕ → ℕ → List ℕ → List ℕ → Type 0
AreNextsFound nfa most sid old new =
    (first depth : ℕ) → IsMetWithin nfa depth sid → AreFoundBy nfa most first depth old
    → AreFoundBy nfa most first depth new

-- nothing was put after the places that were found, or the place of a state, and there are no more than `most`
abbrev pub IsNextFound : ℕ → ℕ → List ℕ → List ℕ → Type 0
IsNextFound most next old new =
    (new ≡ old) ⊎ ((next ≢ nowhere) × (length old < most) × (new ≡ old ++ next ∷ []))

-- The first `at` of the states that were found were asked for their next states, and all that is found is near.
pub record IsFoundTo (nfa : NFA) (most at first depth : ℕ) (found : List ℕ) : Type 0 where
  pub by : AreFoundBy nfa most first depth found
  pub asked : at ≤ first
  pub left : at < length found → at < first
  pub near : depth ≤ near_depth
  pub last : (depth < near_depth) ⊎ (first ≡ length found)

-- Rising places of states near the start: some of them, and not more than `most`.
pub record ArePlacesNear (nfa : NFA) (most : ℕ) (places : List ℕ) : Type 0 where
  pub some : 0 < length places
  pub few : length places ≤ most
  pub rise : Rise places
  pub near : (i : ℕ) → i < length places → IsMetWithin nfa near_depth (slice_index places i)

-- There is room for so many rows: all numbers are small enough, and the rows, the places and the index take at most
-- `memory` bytes.
pub record HasRoomNear (nfa : NFA) (stride memory most : ℕ) : Type 0 where
  pub numbers : most * stride + length nfa.table.words.items ≤ greatest_number
  pub small : entry_bytes * (most * (stride + 1) + (length nfa.table.words.items / index_block + 1)) ≤ memory

-- rows for these places, whatever they hold
pub record AreBlank (places : List ℕ) (stride2 : ℕ) (rows : Rows) : Type 0 where
  pub at : rows.places.items ≡ places
  pub index : length rows.index.items ≡ index_entries places
  pub stride : rows.stride2 ≡ stride2

-- a number was put into an entry
pub record HasPut (at number : ℕ) (old new : Rows) : Type 0 where
  pub trans : new.trans.items ≡ slice_set old.trans.items at number
  pub places : new.places.items ≡ old.places.items
  pub index : new.index.items ≡ old.index.items
  pub stride : new.stride2 ≡ old.stride2

-- an entry of a row has the number of the state to which a byte leads from the row's state
abbrev pub LeadsByEntry : NFA → Rows → ℕ → ℕ → ℕ → Type 0
LeadsByEntry nfa rows row byte number =
    LeadsToNumber (contiguous_dictionary nfa) nfa.table rows.places.items (row_len rows)
    (slice_index rows.places.items row) byte number

-- from the state to which the one at a place fails, a byte leads to the state of a number
abbrev pub FailsToNumber : NFA → Rows → ℕ → ℕ → ℕ → Type 0
FailsToNumber nfa rows place byte number =
    (fail : ℕ) × FailsAt nfa.table place fail
    × LeadsToNumber (contiguous_dictionary nfa) nfa.table rows.places.items (row_len rows) fail byte number

-- an earlier row is that of the state to which the one of a row fails
pub record IsFailureRow (nfa : NFA) (rows : Rows) (row from : ℕ) : Type 0 where
  pub before : from < row
  pub fails : FailsAt nfa.table (slice_index rows.places.items row) (slice_index rows.places.items from)

-- a row was copied to another, and none before that changed
pub record HasCopiedRow (from row : ℕ) (old new : Rows) : Type 0 where
  pub places : new.places.items ≡ old.places.items
  pub index : new.index.items ≡ old.index.items
  pub stride : new.stride2 ≡ old.stride2
  pub len : length new.trans.items ≡ length old.trans.items
  pub before : (at : ℕ) → at < row * row_len old → slice_index new.trans.items at ≡ slice_index old.trans.items at
  pub copied : (k : ℕ) → k < row_len old
      → slice_index new.trans.items (row * row_len old + k) ≡ slice_index old.trans.items (from * row_len old + k)

-- In a row so many entries were filled, those for the first of these bytes. No row before it changed.
pub record HasFilledPart (nfa : NFA) (bytes : List ℕ) (row count : ℕ) (old new : Rows) : Type 0 where
  pub places : new.places.items ≡ old.places.items
  pub index : new.index.items ≡ old.index.items
  pub stride : new.stride2 ≡ old.stride2
  pub len : length new.trans.items ≡ length old.trans.items
  pub before : (at : ℕ) → at < row * row_len old → slice_index new.trans.items at ≡ slice_index old.trans.items at
  pub filled : (k : ℕ) → k < count
      → LeadsByEntry nfa old row (slice_index bytes k) (slice_index new.trans.items (row * row_len old + k))

-- A row was copied from that of its state's failure, and the entries of the first so many classes were put, of those by which the
-- state leads on. All other entries are right.
pub record HasPutEdges (nfa : NFA) (bytes : List ℕ) (row len count : ℕ) (old new : Rows) : Type 0 where
  pub kept : HasFilledPart nfa bytes row 0 old new
  pub right : (k : ℕ) → k < length bytes
      → ((at : ℕ) → count ≤ at → at < len → edge_class nfa.table (slice_index old.places.items row) at ≢ k)
      → LeadsByEntry nfa old row (slice_index bytes k) (slice_index new.trans.items (row * row_len old + k))

-- a row was filled, with an entry for each of these bytes
abbrev pub HasFilled : NFA → List ℕ → ℕ → Rows → Rows → Type 0
HasFilled nfa bytes row old new = HasFilledPart nfa bytes row (length bytes) old new

-- The first so many rows were filled.
pub record HasFilledTo (nfa : NFA) (bytes : List ℕ) (rows : ℕ) (old new : Rows) : Type 0 where
  pub places : new.places.items ≡ old.places.items
  pub index : new.index.items ≡ old.index.items
  pub stride : new.stride2 ≡ old.stride2
  pub len : length new.trans.items ≡ length old.trans.items
  pub filled : (row k : ℕ) → row < rows → k < length bytes
      → LeadsByEntry nfa old row (slice_index bytes k) (slice_index new.trans.items (row * row_len old + k))

-- all rows were filled
abbrev pub HasFilledAll : NFA → List ℕ → Rows → Rows → Type 0
HasFilledAll nfa bytes old new = HasFilledTo nfa bytes (length old.places.items) old new

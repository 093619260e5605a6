-- Rows of the states near the start alone, and the numbers in them.
use Rattle.std.specs.Prelude.{◌≡◌, ℕ, ◌+◌, ◌-◌, ◌*◌, ◌<◌, ◌≤◌, nat_lt, if◌then◌else◌, false, List, length, slice_index}
use Rattle.ac_input.specs.Number.{greatest_number}
use Rattle.ac_input.specs.Alphabet.{class}
use Rattle.ac_input.specs.Dictionary.{Dictionary}
use Rattle.ac_automaton.specs.Named.{Naming, OfNames, IsStep}
use Rattle.ac_tables.specs.declared.contiguous.rows.Rows.{Rows}
use Rattle.ac_tables.specs.declared.contiguous.table.Table.{Table}
use Rattle.ac_tables.specs.Contiguous.Rows.{IsRow, IsRowIn, place_at, place_in_row, row_len}
use Rattle.ac_tables.specs.Contiguous.Table.{AreStates}
use Rattle.ac_tables.specs.Contiguous.Words.{StateParts}

-- ---- numbers

-- Rows of one stride stand for the states at some places. A number below that of their entries is where a row begins.
abbrev pub IsNumberBy : List ℕ → ℕ → ℕ → Type 0
IsNumberBy places stride number = number < length places * stride → IsRow places stride number

-- the place of the state of a number: that of a row, or what the number has more than the entries are
abbrev pub place_by : List ℕ → ℕ → ℕ → ℕ
place_by places stride number =
    if nat_lt number (length places * stride) then place_at places stride number else number - length places * stride

-- a number of the states of an automaton's rows
abbrev pub IsNumber : Rows → ℕ → Type 0
IsNumber rows number = IsNumberBy rows.places.items (row_len rows) number

-- the place of its state
abbrev pub numbered_place : Rows → ℕ → ℕ
numbered_place rows number = place_by rows.places.items (row_len rows) number

-- the number is that of the state at a place
abbrev pub IsNumberOf : Rows → ℕ → ℕ → Type 0
IsNumberOf rows place number = IsNumber rows number × (numbered_place rows number ≡ place)

-- ---- rows

-- the words are laid out by this naming
abbrev pub AreStatesBy : Dictionary → Table → Naming → Type 0
AreStatesBy m table names = (parts : ℕ → StateParts) × AreStates m table names parts

-- By whichever naming the words are laid out, a byte leads from the state at a place to that of a number.
abbrev pub LeadsToNumber : Dictionary → Table → List ℕ → ℕ → ℕ → ℕ → ℕ → Type 0
LeadsToNumber m table places stride place byte number =
    IsNumberBy places stride number
    × OfNames (AreStatesBy m table) false place (λ names. IsStep m names false place byte (place_by places stride number))

-- The rows are those of some states of a table. An entry has the number of the state to which the class of bytes leads.
pub record AreNearRows (m : Dictionary) (table : Table) (rows : Rows) : Type 0 where
  pub room : length rows.trans.items + length table.words.items ≤ greatest_number
  pub letters : (byte : ℕ) → byte < 256 → class table.classes byte < row_len rows
  pub lead : (row byte : ℕ) → IsRowIn rows row → byte < 256
      → LeadsToNumber m table rows.places.items (row_len rows) (place_in_row rows row) byte
      (slice_index rows.trans.items (row + class table.classes byte))

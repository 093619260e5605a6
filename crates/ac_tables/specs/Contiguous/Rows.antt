-- What the rows of a contiguous automaton hold: where each byte leads in an unanchored search, all failures followed.
use Rattle.std.specs.Prelude.{◌≡◌, ℕ, ◌+◌, ◌*◌, ◌/◌, ◌^◌, ◌<◌, ◌≤◌, false, IsTrue, List, length, slice_index, Option, None, Some}
use Rattle.ac_input.specs.Alphabet.{class}
use Rattle.ac_input.specs.Dictionary.{Dictionary}
use Rattle.ac_automaton.specs.Named.{Naming, IsStep}
use Rattle.ac_automaton.specs.Look.{is_between}
use Rattle.ac_automaton.specs.declared.ahead.Note.{Note}
use Rattle.ac_automaton.specs.declared.look.Between.{Between}
use Rattle.ac_tables.specs.Contiguous.Filled.{entry_bytes}
use Rattle.ac_tables.specs.declared.contiguous.rows.Rows.{Rows}

-- ---- rows of one stride, for the states at given places

-- one of the rows begins at the number
pub record IsRow (places : List ℕ) (stride row : ℕ) : Type 0 where
  pub whole : row / stride * stride ≡ row
  pub within : row / stride < length places

-- the place of the state whose row begins at a number
abbrev pub place_at : List ℕ → ℕ → ℕ → ℕ
place_at places stride row = slice_index places (row / stride)

-- The rows are those of a dictionary, by this naming of the places. A byte leads from the row of a place to the row of
-- the place to which the byte leads from there.
pub record AreUnanchoredRows (m : Dictionary) (classes : List ℕ) (names : Naming) (stride : ℕ)
    (trans places : List ℕ) : Type 0 where
  pub letters : (byte : ℕ) → byte < 256 → class classes byte < stride
  pub lead : (row byte : ℕ) → IsRow places stride row → IsTrue (names.met false (place_at places stride row))
      → byte < 256 → IsRow places stride (slice_index trans (row + class classes byte))
  pub steps : (row byte : ℕ) → IsRow places stride row → IsTrue (names.met false (place_at places stride row))
      → byte < 256 → IsStep m names false (place_at places stride row) byte
      (place_at places stride (slice_index trans (row + class classes byte)))

-- ---- the rows of an automaton

-- how many entries a row has
abbrev pub row_len : Rows → ℕ
row_len rows = 2 ^ rows.stride2

-- how many bytes the automaton's rows take
abbrev pub bytes_of_rows : Rows → ℕ
bytes_of_rows rows = entry_bytes * (length rows.trans.items + length rows.places.items + length rows.index.items)

-- one of the automaton's rows begins at the number
abbrev pub IsRowIn : Rows → ℕ → Type 0
IsRowIn rows row = IsRow rows.places.items (row_len rows) row

-- the place of the state whose row begins at the number
abbrev pub place_in_row : Rows → ℕ → ℕ
place_in_row rows row = place_at rows.places.items (row_len rows) row

-- Every row past `last` is that of a state whose place is past `sid`, and every other one that of a state up to there.
pub record IsLastUpTo (rows : Rows) (sid last : ℕ) : Type 0 where
  pub past : (row : ℕ) → last < row → row / row_len rows < length rows.places.items → sid < place_in_row rows row
  pub upto : (row : ℕ) → IsRowIn rows row → row ≤ last → place_in_row rows row ≤ sid

-- a note begins and ends at rows
abbrev pub IsNoteOfRows : Rows → Note → Type 0
IsNoteOfRows rows note = IsRowIn rows note.sid × IsRowIn rows note.next

-- a note of rows as one of their places
abbrev pub note_placed : Rows → Note → Note
note_placed rows note = record note { sid = place_in_row rows note.sid; next = place_in_row rows note.next }

-- the row of a state, if there is a state
abbrev pub AreRowsAt : Rows → Option ℕ → Option ℕ → Type 0
AreRowsAt rows None None = Unit {0}
AreRowsAt rows None (Some row) = ⊥
AreRowsAt rows (Some place) None = ⊥
AreRowsAt rows (Some place) (Some row) = IsRowIn rows row × (place_in_row rows row ≡ place)

-- the rows, if there are any, are those of a dictionary
abbrev pub AreRowsIfAny : Dictionary → List ℕ → Naming → Option Rows → Type 0
AreRowsIfAny m classes names None = Unit {0}
AreRowsIfAny m classes names (Some rows) =
    AreUnanchoredRows m classes names (row_len rows) rows.trans.items rows.places.items

-- the rows between two numbers are those of the states between two places
abbrev pub AreRowsBetween : Rows → Between → Between → Type 0
AreRowsBetween rows places between =
    (row : ℕ) → IsRowIn rows row → is_between between row ≡ is_between places (place_in_row rows row)

-- a copy of the rows
pub record AreSameRows (old new : Rows) : Type 0 where
  pub trans : new.trans.items ≡ old.trans.items
  pub places : new.places.items ≡ old.places.items
  pub index : new.index.items ≡ old.index.items
  pub stride2 : new.stride2 ≡ old.stride2

-- a copy of the rows, if there are any
abbrev pub AreSameIfAny : Option Rows → Option Rows → Type 0
AreSameIfAny None None = Unit {0}
AreSameIfAny None (Some new) = ⊥
AreSameIfAny (Some old) None = ⊥
AreSameIfAny (Some old) (Some new) = AreSameRows old new

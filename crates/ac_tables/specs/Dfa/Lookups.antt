-- What a look-up in the table of a DFA requires of it.
use Rattle.std.specs.Prelude.{◌≡◌, ℕ, ◌+◌, ◌*◌, ◌/◌, ◌<◌, ◌≤◌, List, length, slice_index}
use Rattle.ac_input.specs.declared.search.Anchored.TheVariants.{No}
use Rattle.ac_input.specs.Alphabet.{class}
use Rattle.ac_input.specs.Dfa.{Serves}
use Rattle.ac_tables.specs.declared.dfa.table.Table.{Table}
use Rattle.ac_tables.specs.Dfa.Table.{stride_of, list_index, list_start}

-- which of the lists belongs to the state of this number
abbrev pub list_at : Table → ℕ → ℕ
list_at table sid = list_index table.kind (sid / stride_of table)

-- each byte is a class of its own
abbrev pub ArePlain : List ℕ → Type 0
ArePlain classes = (byte : ℕ) → byte < 256 → class classes byte ≡ byte

-- a whole row begins at the number, with an entry for each class
pub record HasRow (table : Table) (sid : ℕ) : Type 0 where
  pub within : sid + stride_of table ≤ length table.trans.items
  pub classes : (byte : ℕ) → byte < 256 → class table.classes byte < stride_of table

-- The byte leads from the unanchored start back to it. The table serves unanchored searches, and no pattern matches at
-- the start.
pub record IsIdleIn (table : Table) (byte : ℕ) : Type 0 where
  pub serves : Serves table.kind No
  pub plain : table.max_match < table.start
  pub stays : slice_index table.trans.items (table.start + class table.classes byte) ≡ table.start

-- the table has a list for the state of this number, and the list lies within the patterns
pub record HasDfaList (table : Table) (sid : ℕ) : Type 0 where
  pub wide : table.stride2 ≤ 8
  pub past : 2 * stride_of table ≤ sid
  pub listed : list_at table sid < length table.lists.ends.items
  pub rising : list_start table.lists (list_at table sid) ≤ slice_index table.lists.ends.items (list_at table sid)
  pub within : slice_index table.lists.ends.items (list_at table sid) ≤ length table.lists.patterns.items

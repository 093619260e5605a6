-- What a copy of a table has.
use Rattle.std.specs.Prelude.{◌≡◌}
use Rattle.ac_tables.specs.declared.dfa.lists.Lists.{Lists}
use Rattle.ac_tables.specs.declared.dfa.table.Table.{Table}

-- a copy of the lists
pub record AreSameLists (old new : Lists) : Type 0 where
  pub patterns : new.patterns.items ≡ old.patterns.items
  pub ends : new.ends.items ≡ old.ends.items

-- a copy of the table
pub record IsSameDfaTable (old new : Table) : Type 0 where
  pub trans : new.trans.items ≡ old.trans.items
  pub classes : new.classes ≡ old.classes
  pub lists : AreSameLists old.lists new.lists
  pub stride2 : new.stride2 ≡ old.stride2
  pub start : new.start ≡ old.start
  pub start_anchored : new.start_anchored ≡ old.start_anchored
  pub max_match : new.max_match ≡ old.max_match
  pub kind : new.kind ≡ old.kind

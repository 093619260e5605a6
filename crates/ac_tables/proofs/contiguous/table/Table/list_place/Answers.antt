use Rattle.std.proofs.Common.{arith}
use Rattle.ac_tables.proofs.contiguous.table.Table.list_place.Goals as goal

pub index-requires : goal.index-requires
index-requires c = let within = c.requires.first in omega (arith, within, c.as_usize-at.ensures.value)

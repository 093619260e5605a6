use Rattle.std.proofs.Common.{arith}
use Rattle.ac_tables.proofs.contiguous.table.Table.match_len.Goals as goal

pub index-word-requires : goal.index-word-requires
index-word-requires c = let within = c.requires.list in omega (arith, within, c.list_place.ensures)

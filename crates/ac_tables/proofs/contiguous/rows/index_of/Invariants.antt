use Rattle.std.proofs.Common.{◌≡◌, ◌+◌, ◌-◌, ◌/◌, ◌<◌, length, slice_index}
use Rattle.ac_tables.specs.Contiguous.Filled.{index_block}
use Rattle.ac_tables.proofs.contiguous.rows.index_of.Given as goal

abbrev pub invariant-loop-row : goal.invariant-loop-row
invariant-loop-row l = record {
  none : l.row ≡ 0 → length l.index.items ≡ 0;
  some : 0 < l.row → length l.index.items ≡ slice_index l.places (l.row - 1) / index_block + 1;
}

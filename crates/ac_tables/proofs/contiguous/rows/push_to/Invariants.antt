use Rattle.std.proofs.Common.{◌≡◌, length}
use Rattle.ac_tables.proofs.contiguous.rows.push_to.Given as goal

abbrev pub invariant-loop : goal.invariant-loop
invariant-loop l = length l.index.items ≡ l.counter

use Rattle.std.proofs.Common.{arith}
use Rattle.std.proofs.lemmas.Grind.{common_steps}
use Rattle.ac_noncontiguous.proofs.compiler.rows.Rows.of_dead.Goals as goal

pub returns-then-dense_depth-eq0 : goal.returns-then-dense_depth-eq0
returns-then-dense_depth-eq0 c = grind (arith, common_steps)

pub returns : goal.returns
returns c = grind (arith, common_steps)

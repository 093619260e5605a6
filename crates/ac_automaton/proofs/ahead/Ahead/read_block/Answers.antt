use Rattle.std.proofs.Common.{arith}
use Rattle.std.proofs.lemmas.Grind.{common_steps}
use Rattle.ac_automaton.proofs.ahead.Ahead.read_block.Goals as goal

pub returns-clause-ahead : goal.returns-clause-ahead
returns-clause-ahead g c = grind (arith, common_steps)

pub returns-then-noted-eq0-clause-ahead : goal.returns-then-noted-eq0-clause-ahead
returns-then-noted-eq0-clause-ahead g c = grind (arith, common_steps)

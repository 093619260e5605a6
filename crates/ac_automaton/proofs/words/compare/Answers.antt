use Rattle.std.proofs.Common.{arith}
use Rattle.std.proofs.lemmas.Grind.{common_steps}
use Rattle.ac_automaton.proofs.words.compare.Goals as goal

pub returns-in-LeftmostLongest : goal.returns-in-LeftmostLongest
returns-in-LeftmostLongest c = grind (arith, common_steps)

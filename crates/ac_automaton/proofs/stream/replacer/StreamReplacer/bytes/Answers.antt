use Rattle.std.proofs.Common.{arith}
use Rattle.std.proofs.lemmas.Grind.{common_steps}
use Rattle.ac_automaton.proofs.stream.replacer.StreamReplacer.bytes.Goals as goal

pub returns-in-Replacement : goal.returns-in-Replacement
returns-in-Replacement g c = grind (arith, common_steps)

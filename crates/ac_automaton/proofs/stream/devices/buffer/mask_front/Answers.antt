use Rattle.std.proofs.Common.{arith}
use Rattle.std.proofs.lemmas.Grind.{common_steps}
use Rattle.ac_automaton.proofs.stream.devices.buffer.mask_front.Goals as goal

pub returns-clause-masks : goal.returns-clause-masks
returns-clause-masks g c = grind (arith, common_steps)

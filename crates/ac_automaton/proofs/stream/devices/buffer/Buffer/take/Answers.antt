use Rattle.std.proofs.Common.{arith}
use Rattle.std.proofs.lemmas.Grind.{common_steps}
use Rattle.ac_automaton.proofs.stream.devices.buffer.Buffer.take.Goals as goal

pub invariant_of-self : goal.invariant_of-self
invariant_of-self c = grind (arith, common_steps)

pub returns-clause-paid : goal.returns-clause-paid
returns-clause-paid c = grind (arith, common_steps)

pub returns-clause-took : goal.returns-clause-took
returns-clause-took c = grind (arith, common_steps)

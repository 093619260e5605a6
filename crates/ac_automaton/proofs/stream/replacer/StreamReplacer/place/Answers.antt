use Rattle.std.proofs.Common.{arith}
use Rattle.std.proofs.lemmas.Grind.{common_steps}
use Rattle.ac_automaton.proofs.stream.replacer.StreamReplacer.place.Goals as goal

pub cut-requires : goal.cut-requires
cut-requires g c κs = grind (arith, common_steps)

pub returns-then-self : goal.returns-then-self
returns-then-self g c = grind (arith, common_steps)

pub overflow_add-result : goal.overflow_add-result
overflow_add-result g c = grind (arith, common_steps)

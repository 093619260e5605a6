use Rattle.std.proofs.Common.{arith}
use Rattle.std.proofs.lemmas.Grind.{common_steps}
use Rattle.ac_automaton.proofs.stream.mask.words.WordMasker.fill.Goals as goal

pub overflow_sub-held : goal.overflow_sub-held
overflow_sub-held g c = grind (arith, common_steps)

pub returns : goal.returns
returns g c = grind (arith, common_steps)

pub returns-then-held-self : goal.returns-then-held-self
returns-then-held-self g c = grind (arith, common_steps)

use Rattle.std.proofs.Common.{arith}
use Rattle.std.proofs.lemmas.Grind.{common_steps}
use Rattle.ac_automaton.proofs.stream.mask.words.WordMasker.make_room.Goals as goal

pub returns-then-is_full-clause-made : goal.returns-then-is_full-clause-made
returns-then-is_full-clause-made c = grind (arith, common_steps)

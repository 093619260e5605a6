use Rattle.std.proofs.Common.{arith}
use Rattle.std.proofs.lemmas.Grind.{common_steps}
use Rattle.ac_automaton.proofs.in_memory.find.plain.is_plain.Goals as goal

pub is_match-requires : goal.is_match-requires
is_match-requires g c = grind (arith, common_steps)

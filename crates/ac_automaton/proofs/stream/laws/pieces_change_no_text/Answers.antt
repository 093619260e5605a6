use Rattle.std.proofs.Common.{arith}
use Rattle.std.proofs.lemmas.Grind.{common_steps}
use Rattle.ac_automaton.proofs.stream.laws.pieces_change_no_text.Goals as goal

pub returns : goal.returns
returns c = grind (arith, common_steps)

use Rattle.std.proofs.Common.{arith}
use Rattle.std.proofs.lemmas.Grind.{common_steps}
use Rattle.ac_automaton.proofs.stream.search.StreamSearch.is_searched.Goals as goal

pub returns : goal.returns
returns g c = grind (arith, common_steps)

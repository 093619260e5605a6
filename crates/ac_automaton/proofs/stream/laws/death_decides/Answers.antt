use Rattle.ac_automaton.proofs.stream.laws.DeathLemmas.{death-decides}
use Rattle.ac_automaton.proofs.stream.laws.death_decides.Goals as goal

pub returns : goal.returns
returns c = death-decides

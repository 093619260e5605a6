use Rattle.ac_input.proofs.lemmas.LiveLemmas.{dead-final}
use Rattle.ac_input.proofs.live_laws.dead_is_final.Goals as goal

pub returns : goal.returns
returns c = dead-final

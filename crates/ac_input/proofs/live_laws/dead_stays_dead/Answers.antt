use Rattle.ac_input.proofs.lemmas.LiveLemmas.{dead-append}
use Rattle.ac_input.proofs.live_laws.dead_stays_dead.Goals as goal

pub returns : goal.returns
returns c = dead-append

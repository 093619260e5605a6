use Rattle.ac_input.proofs.lemmas.BeginningLemmas.{pick-longer}
use Rattle.ac_input.proofs.beginning_laws.pick_of_beginning_stays.Goals as goal

pub returns : goal.returns
returns c = pick-longer

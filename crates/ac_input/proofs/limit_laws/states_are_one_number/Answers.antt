use Rattle.ac_input.proofs.lemmas.LimitLemmas.{states-one}
use Rattle.ac_input.proofs.limit_laws.states_are_one_number.Goals as goal

pub returns : goal.returns
returns c = states-one

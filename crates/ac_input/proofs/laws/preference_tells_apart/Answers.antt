use Rattle.ac_input.proofs.lemmas.OrderLemmas.{preference-same}
use Rattle.ac_input.proofs.laws.preference_tells_apart.Goals as goal

pub returns : goal.returns
returns c = preference-same

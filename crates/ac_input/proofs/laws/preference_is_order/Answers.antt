use Rattle.ac_input.proofs.lemmas.OrderLemmas.{preference-total}
use Rattle.ac_input.proofs.laws.preference_is_order.Goals as goal

pub returns : goal.returns
returns c = preference-total

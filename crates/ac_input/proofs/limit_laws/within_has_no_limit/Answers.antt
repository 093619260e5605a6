use Rattle.ac_input.proofs.lemmas.LimitLemmas.{within-no_limit}
use Rattle.ac_input.proofs.limit_laws.within_has_no_limit.Goals as goal

pub returns : goal.returns
returns c = within-no_limit

use Rattle.ac_input.proofs.lemmas.LimitLemmas.{within-none}
use Rattle.ac_input.proofs.limit_laws.within_passes_none.Goals as goal

pub returns : goal.returns
returns c = within-none

use Rattle.ac_input.proofs.lemmas.BeginningLemmas.{beginning-occurs}
use Rattle.ac_input.proofs.beginning_laws.beginning_has_what_ends_in_it.Goals as goal

pub returns : goal.returns
returns c = beginning-occurs

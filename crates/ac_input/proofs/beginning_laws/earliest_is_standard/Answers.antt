use Rattle.ac_input.proofs.lemmas.BeginningLemmas.{earliest-standard}
use Rattle.ac_input.proofs.beginning_laws.earliest_is_standard.Goals as goal

pub returns : goal.returns
returns c = earliest-standard

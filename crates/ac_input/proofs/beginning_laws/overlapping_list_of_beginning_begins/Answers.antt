use Rattle.ac_input.proofs.lemmas.BeginningLemmas.{whole-overlapping_begins}
use Rattle.ac_input.proofs.beginning_laws.overlapping_list_of_beginning_begins.Goals as goal

pub returns : goal.returns
returns c = whole-overlapping_begins

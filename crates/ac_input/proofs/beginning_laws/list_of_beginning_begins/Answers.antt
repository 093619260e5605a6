use Rattle.ac_input.proofs.lemmas.BeginningLemmas.{whole-listed_begins}
use Rattle.ac_input.proofs.beginning_laws.list_of_beginning_begins.Goals as goal

pub returns : goal.returns
returns c = whole-listed_begins

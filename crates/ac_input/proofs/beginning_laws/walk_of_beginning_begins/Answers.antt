use Rattle.ac_input.proofs.lemmas.BeginningLemmas.{walk-longer}
use Rattle.ac_input.proofs.beginning_laws.walk_of_beginning_begins.Goals as goal

pub returns : goal.returns
returns c = walk-longer

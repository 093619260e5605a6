use Rattle.ac_input.proofs.lemmas.BestLemmas.{occurrences-all}
use Rattle.ac_input.proofs.laws.occurrences_are_listed.Goals as goal

pub returns : goal.returns
returns c = occurrences-all

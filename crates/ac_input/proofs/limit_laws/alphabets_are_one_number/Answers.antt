use Rattle.ac_input.proofs.lemmas.ClassLemmas.{alphabet-one}
use Rattle.ac_input.proofs.limit_laws.alphabets_are_one_number.Goals as goal

pub returns : goal.returns
returns c = alphabet-one

use Rattle.ac_input.proofs.lemmas.DfaLemmas.{dfa-one}
use Rattle.ac_input.proofs.limit_laws.dfa_sizes_are_one_number.Goals as goal

pub returns : goal.returns
returns c = dfa-one

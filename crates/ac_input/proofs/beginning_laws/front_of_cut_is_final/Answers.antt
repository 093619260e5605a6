use Rattle.ac_input.proofs.lemmas.CutLemmas.{cut-final}
use Rattle.ac_input.proofs.beginning_laws.front_of_cut_is_final.Goals as goal

pub returns : goal.returns
returns c = cut-final

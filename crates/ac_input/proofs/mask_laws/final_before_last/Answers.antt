use Rattle.ac_input.proofs.lemmas.MaskLemmas.{final-before_last}
use Rattle.ac_input.proofs.mask_laws.final_before_last.Goals as goal

pub returns : goal.returns
returns c = final-before_last

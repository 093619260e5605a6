use Rattle.ac_input.proofs.lemmas.MaskLemmas.{final-before_live}
use Rattle.ac_input.proofs.mask_laws.final_before_live.Goals as goal

pub returns : goal.returns
returns c = final-before_live

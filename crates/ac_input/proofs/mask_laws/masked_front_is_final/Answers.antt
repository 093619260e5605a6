use Rattle.ac_input.proofs.lemmas.MaskLemmas.{masked-front_final}
use Rattle.ac_input.proofs.mask_laws.masked_front_is_final.Goals as goal

pub returns : goal.returns
returns c = masked-front_final

use Rattle.ac_input.proofs.lemmas.MaskLemmas.{masked-one}
use Rattle.ac_input.proofs.mask_laws.masked_is_one.Goals as goal

pub returns : goal.returns
returns c = masked-one

use Rattle.ac_input.proofs.lemmas.MaskLemmas.{masked-twice}
use Rattle.ac_input.proofs.mask_laws.masked_twice_is_masked.Goals as goal

pub returns : goal.returns
returns c = masked-twice

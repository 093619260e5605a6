use Rattle.ac_input.proofs.lemmas.MaskLemmas.{masked-only_empty}
use Rattle.ac_input.proofs.mask_laws.only_empty_occur_in_masked.Goals as goal

pub returns : goal.returns
returns c = masked-only_empty

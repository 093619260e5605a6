use Rattle.ac_input.proofs.lemmas.MaskLemmas.{longest-cover}
use Rattle.ac_input.proofs.mask_laws.longest_cover.Goals as goal

pub returns : goal.returns
returns c = longest-cover

use Rattle.ac_input.proofs.lemmas.MaskGrowthLemmas.{masked-by_longest}
use Rattle.ac_input.proofs.mask_laws.masked_by_longest.Goals as goal

pub returns : goal.returns
returns c = masked-by_longest

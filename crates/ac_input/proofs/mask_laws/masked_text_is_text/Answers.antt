use Rattle.ac_input.proofs.lemmas.MaskTextLemmas.{masked-text}
use Rattle.ac_input.proofs.mask_laws.masked_text_is_text.Goals as goal

pub returns : goal.returns
returns c = masked-text

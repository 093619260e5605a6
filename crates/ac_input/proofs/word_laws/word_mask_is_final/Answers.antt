use Rattle.ac_input.proofs.lemmas.WordLemmas.{word-mask_final}
use Rattle.ac_input.proofs.word_laws.word_mask_is_final.Goals as goal

pub returns : goal.returns
returns c = word-mask_final

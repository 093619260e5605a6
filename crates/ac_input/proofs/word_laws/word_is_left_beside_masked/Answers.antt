use Rattle.ac_input.proofs.lemmas.WordLemmas.{word-left}
use Rattle.ac_input.proofs.word_laws.word_is_left_beside_masked.Goals as goal

pub returns : goal.returns
returns c = word-left

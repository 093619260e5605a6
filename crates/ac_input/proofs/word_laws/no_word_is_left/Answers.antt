use Rattle.ac_input.proofs.lemmas.WordLemmas.{no-word_left}
use Rattle.ac_input.proofs.word_laws.no_word_is_left.Goals as goal

pub returns : goal.returns
returns c = no-word_left

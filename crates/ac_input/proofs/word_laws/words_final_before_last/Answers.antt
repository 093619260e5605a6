use Rattle.ac_input.proofs.lemmas.WordLemmas.{words-final_before_last}
use Rattle.ac_input.proofs.word_laws.words_final_before_last.Goals as goal

pub returns : goal.returns
returns c = words-final_before_last

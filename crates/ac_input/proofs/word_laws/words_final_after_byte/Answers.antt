use Rattle.ac_input.proofs.lemmas.WordLemmas.{words-final_after_byte}
use Rattle.ac_input.proofs.word_laws.words_final_after_byte.Goals as goal

pub returns : goal.returns
returns c = words-final_after_byte

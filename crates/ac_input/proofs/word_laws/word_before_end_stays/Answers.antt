use Rattle.ac_input.proofs.lemmas.WordLemmas.{word-stays}
use Rattle.ac_input.proofs.word_laws.word_before_end_stays.Goals as goal

pub returns : goal.returns
returns c = word-stays

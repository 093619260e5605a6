use Rattle.ac_input.proofs.lemmas.WordLemmas.{word-waits}
use Rattle.ac_input.proofs.word_laws.word_at_end_waits.Goals as goal

pub returns : goal.returns
returns c = word-waits

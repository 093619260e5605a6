use Rattle.ac_input.proofs.lemmas.WordLemmas.{asked-counted, counted-computed}
use Rattle.ac_input.proofs.word_laws.asked_are_computed.Goals as goal

pub returns : goal.returns
returns c = λ words. counted-computed (asked-counted words)

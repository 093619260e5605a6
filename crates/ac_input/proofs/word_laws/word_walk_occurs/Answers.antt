use Rattle.ac_input.proofs.lemmas.WordLemmas.{words-occur}
use Rattle.ac_input.proofs.word_laws.word_walk_occurs.Goals as goal

pub returns : goal.returns
returns c = words-occur

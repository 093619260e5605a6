use Rattle.ac_input.proofs.lemmas.WordLemmas.{settled-walk}
use Rattle.ac_input.proofs.word_laws.settled_walk_begins.Goals as goal

pub returns : goal.returns
returns c = settled-walk

use Rattle.ac_input.proofs.lemmas.AmongLemmas.{among-apart}
use Rattle.ac_input.proofs.lemmas.WordLemmas.{whole-counted}
use Rattle.ac_input.proofs.word_laws.word_walk_is_apart.Goals as goal

pub returns : goal.returns
returns c = among-apart whole-counted

use Rattle.ac_input.proofs.lemmas.WordLemmas.{settled-pick}
use Rattle.ac_input.proofs.word_laws.settled_pick_stays.Goals as goal

pub returns : goal.returns
returns c = settled-pick

use Rattle.ac_input.proofs.lemmas.WordLemmas.{unsettled-pick}
use Rattle.ac_input.proofs.word_laws.unsettled_pick_waits.Goals as goal

pub returns : goal.returns
returns c = unsettled-pick

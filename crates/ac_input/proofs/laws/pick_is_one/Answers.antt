use Rattle.ac_input.proofs.lemmas.WalkLemmas.{pick-computed, pick-from_computed}
use Rattle.ac_input.proofs.laws.pick_is_one.Goals as goal

pub returns : goal.returns
returns c = λ kind s at last r inside. (pick-computed inside, pick-from_computed inside)

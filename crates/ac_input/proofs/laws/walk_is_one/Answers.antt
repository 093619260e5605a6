use Rattle.ac_input.proofs.lemmas.WalkLemmas.{walk-computed, walk-from_computed}
use Rattle.ac_input.proofs.laws.walk_is_one.Goals as goal

pub returns : goal.returns
returns c = λ kind s at last os inside. (walk-computed kind s at last inside, walk-from_computed kind s at last inside)

use Rattle.ac_input.proofs.lemmas.BestLemmas.{best-computed, best-from_computed}
use Rattle.ac_input.proofs.laws.best_is_one.Goals as goal

pub returns : goal.returns
returns c = λ kind s r inside. (best-computed kind s inside r, best-from_computed kind s inside r)

use Rattle.ac_input.proofs.lemmas.WalkLemmas.{walk-rising}
use Rattle.ac_input.proofs.laws.walk_is_apart.Goals as goal

pub returns : goal.returns
returns c = λ kind s at last os inside h. walk-rising kind s at last inside os h

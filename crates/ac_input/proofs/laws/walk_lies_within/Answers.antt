use Rattle.ac_input.proofs.lemmas.WalkLemmas.{walk-within}
use Rattle.ac_input.proofs.laws.walk_lies_within.Goals as goal

pub returns : goal.returns
returns c = walk-within

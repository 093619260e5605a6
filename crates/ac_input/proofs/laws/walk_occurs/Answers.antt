use Rattle.ac_input.proofs.lemmas.WalkLemmas.{walk-occurs}
use Rattle.ac_input.proofs.laws.walk_occurs.Goals as goal

pub returns : goal.returns
returns c = walk-occurs

use Rattle.ac_input.proofs.lemmas.UnusedLemmas.{walk_after-splits}
use Rattle.ac_input.proofs.unused_laws.walk_splits_after_unused.Goals as goal

pub returns : goal.returns
returns c = walk_after-splits

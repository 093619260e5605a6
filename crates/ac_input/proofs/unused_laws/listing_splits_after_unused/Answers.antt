use Rattle.ac_input.proofs.lemmas.UnusedLemmas.{listing-splits}
use Rattle.ac_input.proofs.unused_laws.listing_splits_after_unused.Goals as goal

pub returns : goal.returns
returns c = listing-splits

use Rattle.ac_input.proofs.lemmas.ListingLemmas.{listing-computed_iff}
use Rattle.ac_input.proofs.laws.listing_is_computed.Goals as goal

pub returns : goal.returns
returns c = listing-computed_iff

use Rattle.ac_input.proofs.lemmas.ListingLemmas.{listing-unique}
use Rattle.ac_input.proofs.laws.listing_is_one.Goals as goal

pub returns : goal.returns
returns c = listing-unique

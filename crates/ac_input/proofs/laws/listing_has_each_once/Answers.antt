use Rattle.ac_input.proofs.lemmas.TextLemmas.{listing-once}
use Rattle.ac_input.proofs.laws.listing_has_each_once.Goals as goal

pub returns : goal.returns
returns c = listing-once

use Rattle.ac_input.proofs.lemmas.BeginningLemmas.{listing-longer}
use Rattle.ac_input.proofs.beginning_laws.listing_of_beginning_begins.Goals as goal

pub returns : goal.returns
returns c = listing-longer

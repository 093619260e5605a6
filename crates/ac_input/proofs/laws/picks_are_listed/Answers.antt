use Rattle.ac_input.proofs.lemmas.TextLemmas.{walk-in-listing}
use Rattle.ac_input.proofs.laws.picks_are_listed.Goals as goal

pub returns : goal.returns
returns c = walk-in-listing

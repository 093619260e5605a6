use Rattle.ac_input.proofs.lemmas.WordLemmas.{words-filtered}
use Rattle.ac_input.proofs.word_laws.word_listing_is_filtered.Goals as goal

pub returns : goal.returns
returns c = words-filtered

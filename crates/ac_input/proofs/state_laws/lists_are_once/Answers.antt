use Rattle.ac_input.proofs.lemmas.OnceLemmas.{list-once}
use Rattle.ac_input.proofs.state_laws.lists_are_once.Goals as goal

pub returns : goal.returns
returns c = list-once

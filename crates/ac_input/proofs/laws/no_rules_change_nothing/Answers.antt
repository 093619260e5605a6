use Rattle.ac_input.proofs.lemmas.TextLemmas.{no-rules}
use Rattle.ac_input.proofs.laws.no_rules_change_nothing.Goals as goal

pub returns : goal.returns
returns c = no-rules

use Rattle.ac_input.proofs.lemmas.RuleLemmas.{IsRuleFile-one}
use Rattle.ac_input.proofs.laws.rules_are_one.Goals as goal

pub returns : goal.returns
returns c = IsRuleFile-one

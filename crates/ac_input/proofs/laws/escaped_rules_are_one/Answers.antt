use Rattle.ac_input.specs.Rules.{BeginsWithEscapedRule}
use Rattle.ac_input.proofs.lemmas.EscapeLemmas.{IsLineOf-escaped, Unescapes-one}
use Rattle.ac_input.proofs.lemmas.RuleFileLemmas.{FirstBadLineOf-none, FirstBadLineOf-one, IsFileOf-one}
use Rattle.ac_input.proofs.laws.escaped_rules_are_one.Goals as goal

pub returns : goal.returns
returns c = (
  (
    IsFileOf-one BeginsWithEscapedRule IsLineOf-escaped,
    FirstBadLineOf-one BeginsWithEscapedRule IsLineOf-escaped,
    FirstBadLineOf-none BeginsWithEscapedRule IsLineOf-escaped,
  ),
  Unescapes-one,
)

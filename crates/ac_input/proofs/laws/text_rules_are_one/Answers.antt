use Rattle.ac_input.specs.Rules.{BeginsWithTextRule}
use Rattle.ac_input.proofs.lemmas.EscapeLemmas.{IsLineOf-text}
use Rattle.ac_input.proofs.lemmas.RuleFileLemmas.{FirstBadLineOf-none, FirstBadLineOf-one, IsFileOf-one}
use Rattle.ac_input.proofs.laws.text_rules_are_one.Goals as goal

pub returns : goal.returns
returns c = (
  IsFileOf-one BeginsWithTextRule IsLineOf-text,
  FirstBadLineOf-one BeginsWithTextRule IsLineOf-text,
  FirstBadLineOf-none BeginsWithTextRule IsLineOf-text,
)

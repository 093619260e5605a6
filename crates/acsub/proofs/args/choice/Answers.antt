use Rattle.std.proofs.Common.{◌∙◌, ap, [], ◌∷◌}
use Rattle.clap.specs.Words.{Rule, rule_of}
use Rattle.acsub.proofs.args.BuiltLemmas.{given_own, given_rule}
use Rattle.acsub.proofs.args.choice.Goals as goal

pub returns-clause-rule : goal.returns-clause-rule
returns-clause-rule c =
    ap rule_of c.default_value.ensures
    ∙ ap (λ (r : Rule). record r { defaults = c.args.default.now ∷ [] })
    (given_rule _ _ _ _ _ c.value_parser.ensures.others c.value_parser.ensures.given.1 c.value_parser.ensures.given.2
    c.option.ensures.rule)

pub returns-clause-own : goal.returns-clause-own
returns-clause-own c =
    ap (λ x. x.global) c.default_value.ensures
    ∙ given_own c.option.result _ c.value_parser.ensures.others c.option.ensures.own

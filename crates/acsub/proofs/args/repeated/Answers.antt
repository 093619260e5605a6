use Rattle.acsub.proofs.args.BuiltLemmas.{acting_rule, short_rule}
use Rattle.acsub.proofs.args.repeated.Goals as goal

pub returns-clause-rule : goal.returns-clause-rule
returns-clause-rule c =
    let short = short_rule c.option.result c.short.result _ _ c.short.ensures c.option.ensures.rule in
    acting_rule c.short.result c.action.result _ _ c.action.ensures short

use Rattle.acsub.proofs.args.BuiltLemmas.{acting_rule, helped_rule, long_rule}
use Rattle.acsub.proofs.args.flag.Goals as goal

pub returns-clause-rule : goal.returns-clause-rule
returns-clause-rule c =
    let long = long_rule c.new.result c.long.result _ _ c.long.ensures c.new.ensures.rule in
    let helped = helped_rule c.long.result c.help.result _ _ c.help.ensures long in
    acting_rule c.help.result c.action.result _ _ c.action.ensures helped

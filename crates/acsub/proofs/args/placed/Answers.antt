use Rattle.acsub.proofs.args.BuiltLemmas.{acting_rule, helped_rule, named_rule}
use Rattle.acsub.proofs.args.placed.Goals as goal

pub returns-clause-rule : goal.returns-clause-rule
returns-clause-rule c =
    let named = named_rule c.new.result c.value_name.result _ _ c.value_name.ensures c.new.ensures.rule in
    let helped = helped_rule c.value_name.result c.help.result _ _ c.help.ensures named in
    acting_rule c.help.result c.action.result _ _ c.action.ensures helped

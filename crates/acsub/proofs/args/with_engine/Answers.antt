use Rattle.std.proofs.Common.{◌≡◌, ◌∙◌, ap, ap₂}
use Rattle.std.proofs.lemmas.Result.{IfOk-weaker}
use Rattle.clap.specs.Words.{app_of, rule_of, with_rule}
use Rattle.clap.specs.Walk.{texts}
use Rattle.acsub.specs.Args.Command.{depth_rule}
use Rattle.acsub.proofs.args.BuiltLemmas.{given_own, given_rule}
use Rattle.acsub.proofs.args.with_engine.Goals as goal

pub returns : goal.returns
returns c =
    let depth_is : rule_of c.value_parser.result
    ≡ depth_rule = given_rule _ _ _ _ _ c.value_parser.ensures.others c.value_parser.ensures.given.1
    (c.value_parser.ensures.given.2 ∙ c.unsigned.ensures) c.option.ensures.rule in
    let one : app_of c.in_ok-arg.field-0 ≡ _ = c.in_ok-arg.ensures.shape c.choice.ensures.own
    ∙ ap (with_rule (app_of c.args.command)) c.choice.ensures.rule in
    let two : app_of c.in_ok-arg-2.field-0 ≡ _ = c.in_ok-arg-2.ensures.shape c.flag.ensures.own
    ∙ ap₂ with_rule one c.flag.ensures.rule in
    let three : app_of c.in_ok-arg-3.field-0
    ≡ _ = c.in_ok-arg-3.ensures.shape (given_own c.option.result _ c.value_parser.ensures.others c.option.ensures.own)
    ∙ ap₂ with_rule two depth_is in
    IfOk-weaker c.arg-4.result _ _
    (λ r added. (
      c.as_slice.result,
      ap texts c.as_slice.ensures,
      added.shape c.flag-2.ensures.own ∙ ap₂ with_rule three c.flag-2.ensures.rule,
    )) c.arg-4.ensures

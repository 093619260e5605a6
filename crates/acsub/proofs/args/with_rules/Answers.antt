use Rattle.std.proofs.Common.{◌≡◌, ◌∙◌, ap, ap₂}
use Rattle.std.proofs.lemmas.Result.{IfOk-weaker}
use Rattle.clap.specs.Words.{app_of, rule_of, with_rule}
use Rattle.acsub.specs.Args.Command.{file_rule}
use Rattle.acsub.proofs.args.BuiltLemmas.{acting_rule}
use Rattle.acsub.proofs.args.with_rules.Goals as goal

pub returns : goal.returns
returns c =
    let one : app_of c.in_ok-arg.field-0 ≡ _ = c.in_ok-arg.ensures.shape c.placed.ensures.own
    ∙ ap (with_rule (app_of c.args.command)) c.placed.ensures.rule in
    let files : rule_of c.action.result
    ≡ file_rule = acting_rule c.placed-2.result c.action.result _ _ c.action.ensures c.placed-2.ensures.rule in
    let two : app_of c.in_ok-arg-2.field-0
    ≡ _ = c.in_ok-arg-2.ensures.shape (ap (λ x. x.global) c.action.ensures ∙ c.placed-2.ensures.own)
    ∙ ap₂ with_rule one files in
    let three : app_of c.in_ok-arg-3.field-0 ≡ _ = c.in_ok-arg-3.ensures.shape c.repeated.ensures.own
    ∙ ap₂ with_rule two c.repeated.ensures.rule in
    let four : app_of c.in_ok-arg-4.field-0 ≡ _ = c.in_ok-arg-4.ensures.shape c.repeated-2.ensures.own
    ∙ ap₂ with_rule three c.repeated-2.ensures.rule in
    let five : app_of c.in_ok-arg-5.field-0 ≡ _ = c.in_ok-arg-5.ensures.shape c.flag.ensures.own
    ∙ ap₂ with_rule four c.flag.ensures.rule in
    IfOk-weaker c.arg-6.result _ _
    (λ r added. added.shape c.flag-2.ensures.own ∙ ap₂ with_rule five c.flag-2.ensures.rule) c.arg-6.ensures

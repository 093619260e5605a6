use Rattle.std.proofs.Common.{◌≡◌, ◌∙◌, ap, ap₂}
use Rattle.std.proofs.lemmas.Result.{IfOk-weaker}
use Rattle.clap.specs.Words.{app_of, rule_of, with_rule}
use Rattle.acsub.specs.Args.Command.{in_place_rule}
use Rattle.acsub.proofs.args.BuiltLemmas.{short_rule}
use Rattle.acsub.proofs.args.with_files.Goals as goal

pub returns : goal.returns
returns c =
    let in_place : rule_of c.short.result
    ≡ in_place_rule = short_rule c.flag.result c.short.result _ _ c.short.ensures c.flag.ensures.rule in
    let one : app_of c.in_ok-arg.field-0
    ≡ _ = c.in_ok-arg.ensures.shape (ap (λ x. x.global) c.short.ensures ∙ c.flag.ensures.own)
    ∙ ap (with_rule (app_of c.args.command)) in_place in
    let two : app_of c.in_ok-arg-2.field-0 ≡ _ = c.in_ok-arg-2.ensures.shape c.flag-2.ensures.own
    ∙ ap₂ with_rule one c.flag-2.ensures.rule in
    let three : app_of c.in_ok-arg-3.field-0 ≡ _ = c.in_ok-arg-3.ensures.shape c.flag-3.ensures.own
    ∙ ap₂ with_rule two c.flag-3.ensures.rule in
    let four : app_of c.in_ok-arg-4.field-0 ≡ _ = c.in_ok-arg-4.ensures.shape c.flag-4.ensures.own
    ∙ ap₂ with_rule three c.flag-4.ensures.rule in
    IfOk-weaker c.arg-5.result _ _
    (λ r added. added.shape c.flag-5.ensures.own ∙ ap₂ with_rule four c.flag-5.ensures.rule) c.arg-5.ensures

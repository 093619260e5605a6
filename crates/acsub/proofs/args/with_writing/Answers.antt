use Rattle.std.proofs.Common.{◌≡◌, ◌∙◌, ap, ap₂}
use Rattle.std.proofs.lemmas.Result.{IfOk-weaker}
use Rattle.clap.specs.Words.{app_of, with_rule}
use Rattle.acsub.proofs.args.with_writing.Goals as goal

pub returns : goal.returns
returns c =
    let one : app_of c.in_ok-arg.field-0 ≡ _ = c.in_ok-arg.ensures.shape c.flag.ensures.own
    ∙ ap (with_rule (app_of c.args.command)) c.flag.ensures.rule in
    let two : app_of c.in_ok-arg-2.field-0 ≡ _ = c.in_ok-arg-2.ensures.shape c.flag-2.ensures.own
    ∙ ap₂ with_rule one c.flag-2.ensures.rule in
    IfOk-weaker c.arg-3.result _ _
    (λ r added. added.shape c.option.ensures.own ∙ ap₂ with_rule two c.option.ensures.rule) c.arg-3.ensures

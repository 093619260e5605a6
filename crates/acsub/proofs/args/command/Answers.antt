use Rattle.std.proofs.Common.{◌≡◌, ◌∙◌, ap, ap₂, true}
use Rattle.std.proofs.lemmas.Result.{IfOk-weaker}
use Rattle.clap.specs.Words.{App, app_of, rule_of, with_rule}
use Rattle.clap.specs.Walk.{texts}
use Rattle.clap.specs.Simple.{app_of_fields}
use Rattle.acsub.specs.Args.Command.{Names, mode_rule, versioned, with_engine, with_files, with_matching, with_rules, with_writing}
use Rattle.acsub.proofs.args.BuiltLemmas.{given_own, given_rule, required_rule}
use Rattle.acsub.proofs.args.command.Goals as goal

pub returns : goal.returns
returns c =
    let modes : Names = c.as_slice.result in
    let mode_is : rule_of c.required.result
    ≡ mode_rule modes = required_rule c.value_parser.result c.required.result _ c.required.ensures
    (given_rule _ _ _ _ _ c.value_parser.ensures.others c.value_parser.ensures.given.1
    c.value_parser.ensures.given.2 c.placed.ensures.rule) in
    let named : app_of c.after_long_help.result ≡ versioned = ap app_of_fields c.after_long_help.ensures
    ∙ ap app_of_fields c.after_help.ensures ∙ ap app_of_fields c.override_usage.ensures
    ∙ ap app_of_fields c.about.ensures ∙ ap app_of_fields c.version.ensures
    ∙ ap (λ (a : App). record a { top = record a.top { has_version = true } }) c.new.ensures.app in
    let one : app_of c.in_ok-command.command
    ≡ _ = c.in_ok-command.ensures.shape
    (ap (λ x. x.global) c.required.ensures
    ∙ given_own c.placed.result _ c.value_parser.ensures.others c.placed.ensures.own)
    ∙ ap₂ with_rule named mode_is in
    let two : app_of c.in_ok-command-2.command ≡ _ = c.in_ok-command-2.ensures ∙ ap with_rules one in
    let three : app_of c.in_ok-command-3.command ≡ _ = c.in_ok-command-3.ensures ∙ ap with_files two in
    let four : app_of c.in_ok-command-4.command ≡ _ = c.in_ok-command-4.ensures ∙ ap with_writing three in
    let matching = c.in_ok-with_matching.ensures in
    IfOk-weaker c.with_engine.result _ _
    (λ r added. (
      record { modes = modes; kinds = matching.0; engines = added.0 },
      record { modes = ap texts c.as_slice.ensures; kinds = matching.1; engines = added.1 },
      added.2 ∙ ap (with_engine added.0) (matching.2 ∙ ap (with_matching matching.0) four),
    )) c.with_engine.ensures

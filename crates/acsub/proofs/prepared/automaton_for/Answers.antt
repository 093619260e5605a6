-- The builder is given the settings and the rules' patterns.
use Rattle.std.proofs.Common.{ap, ◌∙◌, subst}
use Rattle.std.proofs.lemmas.Result.{err_from_is_err_and}
use Rattle.ac_literal.specs.Packed.{bytes_of}
use Rattle.aho_corasick.specs.Served.{IsFrontBuilt, IsFrontBuildRefused}
use Rattle.acsub.specs.Served.{builder_by}
use Rattle.acsub.proofs.prepared.ServedLemmas.{built-serves, refused-fails}
use Rattle.acsub.proofs.prepared.automaton_for.Goals as goal

pub returns-in_err-build-clause-fails : goal.returns-in_err-build-clause-fails
returns-in_err-build-clause-fails c =
    let p = err_from_is_err_and c.from_residual-in_err-build.result c.from_residual-in_err-build.ensures.1 in
    let settings = c.args.settings.now in
    let patterns = bytes_of c.as_slice.result.now in
    let same = ap bytes_of c.as_slice.ensures.value ∙ c.in_ok-patterns.ensures in
    let error = c.in_err-build.field-0.0 in
    let refused =
    subst (λ b. IsFrontBuildRefused b patterns error) c.builder_for.ensures c.in_err-build.ensures.refused in
    rw (p.1, p.2)
    (refused-fails settings c.args.rules.now error c.requires
    (subst (λ ps. IsFrontBuildRefused (builder_by settings) ps error) same refused))

pub returns-clause-serves : goal.returns-clause-serves
returns-clause-serves c =
    let patterns = bytes_of c.as_slice.result.now in
    let same = ap bytes_of c.as_slice.ensures.value ∙ c.in_ok-patterns.ensures in
    let ac = c.in_ok-build.field-0 in
    let starts = c.in_ok-build.ensures.served.starts ∙ ap (λ b. b.settings.start_kind) c.builder_for.ensures in
    let built = subst (λ b. IsFrontBuilt b patterns ac) c.builder_for.ensures c.in_ok-build.ensures.served in
    built-serves c.args.settings.now c.args.rules.now patterns ac same starts built

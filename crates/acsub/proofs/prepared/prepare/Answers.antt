-- Settings that are accepted are prepared, or the build says why not.
use Rattle.std.proofs.Common.{refl}
use Rattle.std.proofs.lemmas.Result.{err_from_is_err_and}
use Rattle.acsub.specs.Plan.{plan_of}
use Rattle.acsub.proofs.run.RunLemmas.{built_error}
use Rattle.acsub.proofs.prepared.ServedLemmas.{finder-buildable}
use Rattle.acsub.proofs.prepared.prepare.Goals as goal

pub returns-in_err-finder-in-Ok : goal.returns-in_err-finder-in-Ok
returns-in_err-finder-in-Ok c =
    let p = err_from_is_err_and c.from_residual.result c.from_residual.ensures.1 in
    rw (p.1, p.2)
    (built_error (plan_of c.args.stream c.args.settings.now c.args.rules.now) c.in_err-finder-in-Ok.field-0.0
    c.in-Ok.ensures.accepted c.in_err-finder-in-Ok.ensures.fails)

pub returns-in_ok-finder-in-Ok : goal.returns-in_ok-finder-in-Ok
returns-in_ok-finder-in-Ok c = (
  refl,
  (
    c.in-Ok.ensures.accepted,
    finder-buildable c.args.settings.now c.args.rules.now c.in_ok-finder-in-Ok.finder c.in_ok-finder-in-Ok.ensures.finds,
  ),
)

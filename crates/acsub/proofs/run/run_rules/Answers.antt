-- The result is that of the preparation if it failed, and otherwise that of the run.
use Rattle.std.proofs.Common.{false, subst, sym}
use Rattle.std.proofs.lemmas.Result.{err_from_is_err_and}
use Rattle.acsub.specs.Plan.{plan_of}
use Rattle.acsub.specs.Run.{CostsRun, IsPrepared, RanRules}
use Rattle.acsub.proofs.run.CountLemmas.{nothing_cost}
use Rattle.acsub.proofs.run.RunLemmas.{unprepared_ran}
use Rattle.acsub.proofs.run.run_rules.Goals as goal

-- ---- nothing was prepared

pub returns-in_err-prepared-clause-answered : goal.returns-in_err-prepared-clause-answered
returns-in_err-prepared-clause-answered g c =
    let p = err_from_is_err_and c.from_residual.result c.from_residual.ensures.1 in
    rw (p.1, p.2)
    (unprepared_ran g.R.Read.remaining g.W.Write.contents (c.args.reader.now, c.args.writer.now)
    (plan_of false c.args.settings.now c.args.rules.now) c.in_err-prepared.field-0.0 c.in_err-prepared.ensures)

pub returns-in_err-prepared-clause-cost : goal.returns-in_err-prepared-clause-cost
returns-in_err-prepared-clause-cost g c =
    let p = err_from_is_err_and c.from_residual.result c.from_residual.ensures.1 in
    rw p.1 (nothing_cost (plan_of false c.args.settings.now c.args.rules.now) c.args.reader.now c.args.steps.now
    p.0)

-- ---- the run

pub run_prepared-requires-clause-prepared : goal.run_prepared-requires-clause-prepared
run_prepared-requires-clause-prepared g c = subst IsPrepared (sym c.in_ok-prepared.ensures.0) c.in_ok-prepared.ensures.1

pub returns-clause-answered : goal.returns-clause-answered
returns-clause-answered g c =
    let ran = c.run_prepared in
    subst (λ p. RanRules g.R.Read.remaining g.W.Write.contents (c.args.reader.now, c.args.writer.now)
    (ran.new.reader, ran.new.writer) p ran.result) c.in_ok-prepared.ensures.0 ran.ensures.answered

pub returns-clause-cost : goal.returns-clause-cost
returns-clause-cost g c =
    let ran = c.run_prepared in
    subst (λ p. CostsRun p c.args.reader.now ran.new.reader c.args.steps.now ran.new.steps ran.result)
    c.in_ok-prepared.ensures.0 ran.ensures.cost

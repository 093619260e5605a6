-- What holds for the rules holds for their file.
use Rattle.std.proofs.Common.{false}
use Rattle.acsub.specs.Plan.{plan_of}
use Rattle.acsub.specs.declared.rules.Form.TheVariants.{Hex}
use Rattle.acsub.proofs.run.FileLemmas.{costs_in, no_bad_line, ran_in, unread_costs, unread_line, unread_ran}
use Rattle.acsub.proofs.run.run_counted.Goals as goal

pub returns-in-Ok-clause-answered : goal.returns-in-Ok-clause-answered
returns-in-Ok-clause-answered g c =
    let ran = c.run_rules in
    ran_in Hex (plan_of false c.args.settings.now) c.args.rules.now c.in-Ok.rules
    c.in-Ok.ensures.rules g.R.Read.remaining g.W.Write.contents (c.args.reader.now, c.args.writer.now)
    (ran.new.reader, ran.new.writer) ran.result ran.ensures.answered

pub returns-in-Ok-clause-fault : goal.returns-in-Ok-clause-fault
returns-in-Ok-clause-fault g c =
    let ran = c.run_rules in
    no_bad_line Hex (plan_of false c.args.settings.now) c.args.rules.now c.in-Ok.rules
    c.in-Ok.ensures.rules g.R.Read.remaining g.W.Write.contents (c.args.reader.now, c.args.writer.now)
    (ran.new.reader, ran.new.writer) ran.result ran.ensures.answered

pub returns-in-Ok-clause-cost : goal.returns-in-Ok-clause-cost
returns-in-Ok-clause-cost g c =
    let ran = c.run_rules in
    costs_in Hex (plan_of false c.args.settings.now) c.args.rules.now c.in-Ok.rules
    c.in-Ok.ensures.rules c.args.reader.now ran.new.reader c.args.steps.now ran.new.steps ran.result ran.ensures.cost

pub returns-in-Err-clause-answered : goal.returns-in-Err-clause-answered
returns-in-Err-clause-answered g c =
    rw c.unread.ensures
    (unread_ran Hex c.args.rules.now c.in-Err.error c.in-Err.ensures g.R.Read.remaining g.W.Write.contents
    (c.args.reader.now, c.args.writer.now) (plan_of false c.args.settings.now))

pub returns-in-Err-clause-fault : goal.returns-in-Err-clause-fault
returns-in-Err-clause-fault g c =
    rw c.unread.ensures (unread_line Hex c.args.rules.now c.in-Err.error c.in-Err.ensures)

pub returns-in-Err-clause-cost : goal.returns-in-Err-clause-cost
returns-in-Err-clause-cost g c =
    rw c.unread.ensures
    (unread_costs Hex c.args.rules.now c.in-Err.error c.in-Err.ensures c.args.reader.now
    (plan_of false c.args.settings.now) c.args.steps.now)

-- The job that was asked for ran, or there is none.
use Rattle.acsub.proofs.tool.ByFileLemmas.{asked-none, asked-ran, rules-counted}
use Rattle.acsub.proofs.tool.run_by_rules.Goals as goal

pub returns-in-Ok-clause-ran : goal.returns-in-Ok-clause-ran
returns-in-Ok-clause-ran g c =
    let ran = c.run_over-ran in
    rw c.as_early.ensures
    (asked-ran g.R.Read.remaining g.W.Write.contents c.args.task.now.asked.now (c.args.reader.now, c.args.writer.now)
    (ran.new.reader, ran.new.writer) c.args.rules.now c.in-Ok.job ran.result c.in-Ok.ensures.made ran.ensures.ran)

pub returns-in-Err-clause-ran : goal.returns-in-Err-clause-ran
returns-in-Err-clause-ran g c =
    asked-none g.R.Read.remaining g.W.Write.contents c.args.task.now.asked.now (c.args.reader.now, c.args.writer.now)
    c.args.rules.now c.in-Err.error c.in-Err.ensures.refused

pub returns-in-Ok-clause-counts : goal.returns-in-Ok-clause-counts
returns-in-Ok-clause-counts g c =
    let ran = c.run_over-ran in
    rw c.as_early.ensures
    (rules-counted c.args.task.now.asked.now c.args.rules.now c.args.reader.now ran.new.reader c.args.tally.now
    ran.new.tally c.in-Ok.job ran.result c.in-Ok.ensures.made ran.ensures.counts)

-- The run over the old file wrote its text into the new one.
use Rattle.std.proofs.Common.{Ok, subst}
use Rattle.acsub.specs.Visits.{RunsJob, behind}
use Rattle.acsub.proofs.files.FileRunLemmas.{over-file}
use Rattle.acsub.proofs.in_place.write_text.Goals as goal

pub returns-in-Ok : goal.returns-in-Ok
returns-in-Ok g c =
    let held = g.F.File.Read.remaining in
    let contents = g.F.File.Write.contents in
    over-file g.row.F.Denot held (behind contents) c.args.job.now c.in_ok-input.input c.run_over.new.reader
    (c.args.output.now, c.args.tally.now) (c.run_over.new.writer, c.run_over.new.tally) c.in_ok-input.ensures.fresh (Ok tt)
    (subst
    (RunsJob (behind held) (behind contents) c.args.job.now (c.in_ok-input.input, c.args.output.now, c.args.tally.now)
    (c.run_over.new.reader, c.run_over.new.writer, c.run_over.new.tally)) c.in-Ok.is c.run_over.ensures)

-- What the run came to, the visit returns.
use Rattle.acsub.proofs.files.FileRunLemmas.{visited}
use Rattle.acsub.proofs.files.run_file.Goals as goal

pub returns : goal.returns
returns g c =
    visited g.row.F.Denot g.F.File.Read.remaining g.W.Write.contents c.args.job.now c.in-Ok-watch.input
    c.run_one.new.reader (c.args.writer.now, c.args.tally.now) (c.run_one.new.writer, c.run_one.new.tally)
    c.in-Ok-watch.ensures.fresh c.run_one.result c.run_one.ensures

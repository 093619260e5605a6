-- The rules were read, the FILEs were visited by them, and the writer was flushed; or the rules could not be read.
use Rattle.acsub.proofs.tool.FilesOutcomeLemmas.{files-ran}
use Rattle.acsub.proofs.tool.run_all.Goals as goal

pub returns-clause-ran : goal.returns-clause-ran
returns-clause-ran g c = λ has.
    let read = c.in_ok-file.ensures has.source in
    let ran = c.run_by_text-ran in
    files-ran g.row.F.Denot g.F.File.Read.remaining g.F.File.Write.contents g.R.Read.remaining g.W.Write.contents
    c.args.task.now.asked.now (c.args.reader.now, c.args.writer.now, c.args.errors.now, c.args.report.now)
    c.read_rule_text.new.reader read.1 (ran.new.reader, c.finish.new.writer, ran.new.errors, ran.new.report)
    ran.new.writer c.as_slice.result.now ran.result c.finish.result
    (rw c.as_slice.ensures.value read.0) (ran.ensures.ran has.check) c.finish.ensures

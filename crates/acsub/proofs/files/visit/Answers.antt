-- The job ran by a writer that was made for the lines of this FILE.
use Rattle.std.proofs.Common.{refl}
use Rattle.acsub.proofs.files.LabelledRunLemmas.{ran-labelled}
use Rattle.acsub.proofs.files.visit.Goals as goal

pub returns-in-Ok : goal.returns-in-Ok
returns-in-Ok g c = record {
  in_place = λ is. absurd (cc (is, c.if-task.false));
  plain = λ in_place none. absurd (cc (none, c.is_labelled.ensures, c.if-is_labelled.true));
  labelled = λ in_place some.
      ran-labelled g.row.F.Denot g.F.File.Read.remaining g.F.File.Write.contents g.R.Read.remaining g.W.Write.contents
      c.args.task.now.asked.now c.args.job.now c.args.path.now
      (c.args.reader.now, c.args.writer.now, c.args.report.now) _ c.new-lines.result c.run_input.new.writer
      c.run_input.result c.new-then-is_labelled.ensures c.new-lines.ensures.device c.new-lines.ensures.fresh
      c.run_input.ensures refl refl;
  status = refl;
}

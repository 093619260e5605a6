-- What is left to visit leads to what all visits lead to. As long as no FILE failed nothing was said, but counts.
use Rattle.std.proofs.Common.{◌≡◌, drop}
use Rattle.clap.specs.Walk.{texts}
use Rattle.acsub.specs.Folds.{StaysQuiet}
use Rattle.acsub.proofs.files.FoldLemmas.{Leads}
use Rattle.acsub.proofs.files.visit_all.Given as goal

abbrev pub invariant-loop-path : goal.invariant-loop-path
invariant-loop-path g l = record {
  quiet : l.report.status ≡ 0 → StaysQuiet l.task.asked.now l.fn.errors l.errors;
  leads :
      Leads g.row.F.Denot g.F.File.Read.remaining g.F.File.Write.contents g.R.Read.remaining g.W.Write.contents
      l.task.asked.now l.job l.paths (l.fn.reader, l.fn.writer, l.fn.errors, l.fn.report)
      (texts (drop l.path-index l.paths)) (l.reader, l.writer, l.errors, l.report);
}

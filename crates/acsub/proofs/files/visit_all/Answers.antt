-- Each visit leads on.
use Rattle.std.proofs.Common.{◌≡◌, ◌<◌, ℕ, Err, refl, sym, ap, ◌∙◌, arith}
use Rattle.acsub.proofs.files.FoldLemmas.{leads-noted, leads-on, leads-stop, noted-some, quiet-on}
use Rattle.acsub.proofs.files.visit_all.Goals.{in-Ok, in-Err-File}
use Rattle.acsub.proofs.files.visit_all.Goals as goal
use Rattle.acsub.specs.declared.files.Report.{Report}

abbrev status_of : Report → ℕ
status_of report = report.status

unquiet : {n : ℕ} → 0 < n → n ≡ 0 → ⊥
unquiet some is = omega arith

pub returns-in-Err-All-clause-ran : goal.returns-in-Err-All-clause-ran
returns-in-Err-All-clause-ran g c =
    leads-stop g.row.F.Denot g.F.File.Read.remaining g.F.File.Write.contents g.R.Read.remaining g.W.Write.contents
    c.args.task.now.asked.now c.args.job.now c.args.paths.now
    (c.args.reader.now, c.args.writer.now, c.args.errors.now, c.args.report.now) c.loop-path.path-index _
    c.loop-path-test.true (c.loop-path.reader, c.loop-path.writer, c.loop-path.errors, c.loop-path.report)
    (c.visit-visited.new.reader, c.visit-visited.new.writer, c.loop-path.errors, c.visit-visited.new.report) refl
    c.loop-path.invariant.leads c.visit-visited.result c.in-Err-All.fault
    (c.in-Err-All.is ∙ ap (λ s. Err s) c.in-Err-All.field-0-is) c.visit-visited.ensures

pub loop-path-preserved : goal.loop-path-preserved
loop-path-preserved g c = elim c.match-visited.branch [
  | in-Ok w ↦ record {
    quiet = λ fine.
        quiet-on c.args.task.now.asked.now c.args.errors.now c.loop-path.errors c.tell_count.new.errors
        (c.loop-path.invariant.quiet (sym c.visit-visited.ensures.status ∙ sym (ap status_of w.report-is) ∙ fine))
        (rw w.errors-is at c.tell_count.ensures);
    leads = leads-on g.row.F.Denot g.F.File.Read.remaining g.F.File.Write.contents g.R.Read.remaining g.W.Write.contents
        c.args.task.now.asked.now c.args.job.now c.args.paths.now
        (c.args.reader.now, c.args.writer.now, c.args.errors.now, c.args.report.now) c.loop-path.path-index _
        c.loop-path-test.true (c.loop-path.reader, c.loop-path.writer, c.loop-path.errors, c.loop-path.report)
        (c.visit-visited.new.reader, c.visit-visited.new.writer, c.loop-path.errors, c.visit-visited.new.report) refl
        c.loop-path.invariant.leads c.visit-visited.result w.in-Ok.is c.visit-visited.ensures
        c.match-visited.errors c.tell_count.new.errors c.match-visited.report w.errors-is w.report-is c.tell_count.ensures;
  }
  | in-Err-File w ↦ record {
    quiet = λ fine. absurd (unquiet (noted-some w.in-Err-File.fault c.visit-visited.new.report w.note.new.report
        w.note.ensures) (sym (ap status_of w.report-is) ∙ fine));
    leads = leads-noted g.row.F.Denot g.F.File.Read.remaining g.F.File.Write.contents g.R.Read.remaining g.W.Write.contents
        c.args.task.now.asked.now c.args.job.now c.args.paths.now
        (c.args.reader.now, c.args.writer.now, c.args.errors.now, c.args.report.now) c.loop-path.path-index _
        c.loop-path-test.true (c.loop-path.reader, c.loop-path.writer, c.loop-path.errors, c.loop-path.report)
        (c.visit-visited.new.reader, c.visit-visited.new.writer, c.loop-path.errors, c.visit-visited.new.report) refl
        c.loop-path.invariant.leads c.visit-visited.result w.in-Err-File.fault
        (w.in-Err-File.is ∙ ap (λ s. Err s) w.in-Err-File.field-0-is) c.visit-visited.ensures
        c.match-visited.errors c.tell_count.new.errors c.match-visited.report w.note.new.report w.report-is w.note.ensures
        c.tell_count.ensures;
  }
]

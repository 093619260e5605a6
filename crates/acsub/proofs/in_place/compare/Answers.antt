-- The run's text is all that the file beside it has.
use Rattle.std.proofs.Common.{ℕ, List, ap, ◌∙◌, subst}
use Rattle.acsub.specs.Comparing.{IsWholeFile}
use Rattle.acsub.specs.InPlace.{compared_text}
use Rattle.acsub.specs.Visits.{RunsJob, behind}
use Rattle.acsub.specs.declared.comparing.Comparing.{Comparing}
use Rattle.acsub.proofs.in_place.compare.Goals as goal

pub returns-in-Ok : goal.returns-in-Ok
returns-in-Ok g c =
    let text : Comparing g.row.F-File.Denot → List ℕ = λ comparing. comparing.compared.bytes in
    record {
      opened = c.in_ok-input-2.input;
      closed = c.run_over-ran.new.reader;
      before = c.new-output.result;
      after = c.run_over-ran.new.writer;
      beside = c.is_same.new.self.file;
      fresh = c.in_ok-input-2.ensures.fresh;
      none = ap text c.new-output.ensures.device ∙ c.new.ensures;
      runs =
          subst
          (RunsJob (behind g.F.File.Read.remaining) compared_text c.args.job.now
          (c.in_ok-input-2.input, c.new-output.result, c.args.tally.now)
          (c.run_over-ran.new.reader, c.run_over-ran.new.writer, c.run_over-ran.new.tally))
          c.in-Ok.is c.run_over-ran.ensures;
      same =
          subst (IsWholeFile c.is_same.new.self.file) (ap text c.into_inner-compared.ensures)
          (c.is_same.ensures c.if-is_same.true);
    }

-- No pattern is left where the job masks. The other jobs promise nothing there.
use Rattle.std.proofs.Common.{Result, Ok, Err, subst, sym}
use Rattle.std.specs.Prelude.{OnOk}
use Rattle.acsub.specs.Jobs.{MasksCleanly}
use Rattle.acsub.proofs.mask.MaskRunLemmas.{leaves-none}
use Rattle.acsub.proofs.job.Job.run.Goals as goal

nothing-on_ok : {A E : Type 0} (result : Result A E) → OnOk result (Unit {0})
nothing-on_ok (Ok done) = tt
nothing-on_ok (Err e) = tt

pub returns-in-Run-clause-clean : goal.returns-in-Run-clause-clean
returns-in-Run-clause-clean g c =
    let ran = c.run_prepared in
    subst (λ job. OnOk ran.result (MasksCleanly job c.args.writer.now ran.new.writer)) (sym c.in-Run.is)
    (nothing-on_ok ran.result)

pub returns-in-Mask-clause-clean : goal.returns-in-Mask-clause-clean
returns-in-Mask-clause-clean g c =
    let p = c.in-Mask.prepared in
    let ran = c.run_prepared_mask in
    subst (λ job. OnOk ran.result (MasksCleanly job c.args.writer.now ran.new.writer)) (sym c.in-Mask.is)
    (leaves-none g.R.Read.remaining g.W.Write.contents (c.args.reader.now, c.args.writer.now)
    (ran.new.reader, ran.new.writer) p.settings p.rules.now p.mask.byte p.mask.word ran.result ran.ensures.answered)

pub returns-in-Words-clause-clean : goal.returns-in-Words-clause-clean
returns-in-Words-clause-clean g c =
    let ran = c.run_prepared_words in
    subst (λ job. OnOk ran.result (MasksCleanly job c.args.writer.now ran.new.writer)) (sym c.in-Words.is)
    (nothing-on_ok ran.result)

-- The rules have the bytes that were read, and the FILEs were visited by them; or these bytes are no rules.
use Rattle.std.proofs.Common.{inl, inr, refl, ap, Err}
use Rattle.acsub.specs.declared.tool.Fault.TheVariants as faults
use Rattle.acsub.proofs.tool.run_by_text.Goals as goal

pub returns-in-Ok-2-clause-ran : goal.returns-in-Ok-2-clause-ran
returns-in-Ok-2-clause-ran g c =
    let read = rw c.form.ensures at c.in-Ok.ensures in
    λ report. inl (c.in-Ok.rules, read.rules, c.run_files.ensures.ran)

pub returns-in-Err-clause-ran : goal.returns-in-Err-clause-ran
returns-in-Err-clause-ran g c =
    let read = rw c.form.ensures at c.in-Err.ensures in
    λ report. inr (c.in-Err.error, read, refl, ap (λ e. Err (faults.Run e)) c.unread.ensures)

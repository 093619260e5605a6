-- The status is made of what the visits of all FILEs came to.
use Rattle.std.proofs.Common.{Ok, Err}
use Rattle.acsub.proofs.tool.serve_all.Goals as goal

pub returns-in-Ok-clause-ended : goal.returns-in-Ok-clause-ended
returns-in-Ok-clause-ended g c = λ has. (
  c.new-report.result,
  c.run_all.new.report,
  c.run_all.new.errors,
  Ok tt,
  c.new-report.ensures,
  rw c.found.ensures at c.conclude.ensures.status,
  c.in-Ok.ensures.ran has,
)

pub returns-in-Err-clause-ended : goal.returns-in-Err-clause-ended
returns-in-Err-clause-ended g c = λ has. (
  c.new-report.result,
  c.run_all.new.report,
  c.run_all.new.errors,
  Err c.in-Err.fault,
  c.new-report.ensures,
  c.tell.ensures,
  c.in-Err.ensures.ran has,
)

use Rattle.std.proofs.Common.{◌≤◌}
use Rattle.ac_literal.proofs.openings.fronts.bucket_of.Given as goal

abbrev pub invariant-loop-other : goal.invariant-loop-other
invariant-loop-other l = l.before ≤ l.other-index

use Rattle.std.proofs.Common.{◌≤◌}
use Rattle.ac_literal.proofs.packed.pattern.Patterns.before.Given as goal

abbrev pub invariant-loop-other : goal.invariant-loop-other
invariant-loop-other l = l.count ≤ l.other-index

-- The best window so far lies within the bytes.
use Rattle.std.proofs.Common.{◌+◌, ◌≤◌, length}
use Rattle.ac_literal.proofs.grams.rarest.Given as goal

abbrev pub invariant-loop-first : goal.invariant-loop-first
invariant-loop-first l = l.best + l.size ≤ length l.bytes

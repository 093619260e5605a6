use Rattle.std.specs.List.{Contains}
use Rattle.ac_literal.proofs.prefilter.rare_bytes.rarest.Given as goal

abbrev pub invariant-loop-byte : goal.invariant-loop-byte
invariant-loop-byte l = Contains l.pattern l.best

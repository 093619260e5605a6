use Rattle.std.proofs.Common.{ℕ, List, length}
use Rattle.acsub.proofs.rules.EscapedLemmas.{BeginsWithBytes}
use Rattle.acsub.proofs.rules.escapes.is_escaped.Given as goal

abbrev pub invariant-loop-after : goal.invariant-loop-after
invariant-loop-after l = (bytes : List ℕ) × BeginsWithBytes l.side bytes l.rest

abbrev pub decreases-loop-after : goal.decreases-loop-after
decreases-loop-after l = length l.rest

use Rattle.std.proofs.Common.{length}
use Rattle.acsub.proofs.rules.EscapedLemmas.{BeginsWithBytes}
use Rattle.acsub.proofs.rules.escapes.unescape.Given as goal

abbrev pub invariant-loop-byte : goal.invariant-loop-byte
invariant-loop-byte l = BeginsWithBytes l.side l.bytes.items l.rest

abbrev pub decreases-loop-byte : goal.decreases-loop-byte
decreases-loop-byte l = length l.rest

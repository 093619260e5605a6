use Rattle.std.proofs.Common.{ℕ, ◌<◌, get_or}
use Rattle.ac_literal.specs.Packed.RabinKarp.{IsNoLater}
use Rattle.ac_literal.proofs.packed.pattern.Patterns.place_of.Given as goal

abbrev pub invariant-loop-i : goal.invariant-loop-i
invariant-loop-i l = (i : ℕ) → i < l.i → IsNoLater l.kind l.self l.number (get_or l.order i 0)

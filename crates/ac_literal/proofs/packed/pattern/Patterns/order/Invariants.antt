use Rattle.ac_literal.specs.Packed.RabinKarp.{IsOrder}
use Rattle.ac_literal.proofs.packed.pattern.Patterns.order.Given as goal

abbrev pub invariant-loop-number : goal.invariant-loop-number
invariant-loop-number l = IsOrder l.kind l.self l.number l.order.items

use Rattle.std.proofs.Common.{◌≡◌, take, map}
use Rattle.ac_literal.specs.Packed.{added_all}
use Rattle.ac_literal.proofs.packed.api.Builder.try_extend.Given as goal

abbrev pub invariant-loop-pattern : goal.invariant-loop-pattern
invariant-loop-pattern l = l.self ≡ added_all l.fn.self (take l.pattern-index (map (λ p. p.now) l.patterns))

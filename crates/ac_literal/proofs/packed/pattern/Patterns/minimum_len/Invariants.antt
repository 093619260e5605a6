use Rattle.std.proofs.Common.{◌≡◌, map, take}
use Rattle.ac_input.specs.Work.{shortest}
use Rattle.ac_literal.proofs.packed.pattern.Patterns.minimum_len.Given as goal

abbrev pub invariant-loop-pattern : goal.invariant-loop-pattern
invariant-loop-pattern l = l.least ≡ shortest (map (λ pattern. pattern.items) (take l.pattern-index l.pattern-items))

use Rattle.std.proofs.Common.{◌<◌}
use Rattle.ac_input.specs.Best.{IsLeast}
use Rattle.test_plain.specs.Naive.{PlainStartsAt}
use Rattle.test_plain.proofs.plain.Naive.best_starting_at.Given as goal

abbrev pub invariant-loop-number : goal.invariant-loop-number
invariant-loop-number l =
    IsLeast l.kind (λ o. PlainStartsAt l.self l.at o × (o.pattern < l.number)) l.best

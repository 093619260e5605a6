use Rattle.std.proofs.Common.{◌≤◌}
use Rattle.ac_input.specs.Occurrence.{Occurrence}
use Rattle.test_plain.specs.Naive.{LiesAlike}
use Rattle.test_plain.proofs.plain.Naive.next_alike.Given as goal

abbrev pub invariant-loop-number : goal.invariant-loop-number
invariant-loop-number l = (o : Occurrence) → LiesAlike l.self l.fn.before o → l.number ≤ o.pattern

use Rattle.std.proofs.Common.{◌≤◌}
use Rattle.ac_input.specs.Occurrence.{Occurrence}
use Rattle.test_plain.specs.Naive.{ReachesAfter}
use Rattle.test_plain.proofs.plain.Naive.first_by_end.Given as goal

abbrev pub invariant-loop-end : goal.invariant-loop-end
invariant-loop-end l = (o : Occurrence) → ReachesAfter l.self l.from l.before o → l.end ≤ o.end

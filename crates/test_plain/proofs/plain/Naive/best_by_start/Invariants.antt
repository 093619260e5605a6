use Rattle.std.proofs.Common.{◌≤◌}
use Rattle.ac_input.specs.Occurrence.{Occurrence}
use Rattle.test_plain.specs.Naive.{PlainOccurs}
use Rattle.test_plain.proofs.plain.Naive.best_by_start.Given as goal

abbrev pub invariant-loop-at : goal.invariant-loop-at
invariant-loop-at l = (o : Occurrence) → PlainOccurs l.self o → l.at ≤ o.start

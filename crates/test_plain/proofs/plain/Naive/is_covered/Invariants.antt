use Rattle.std.proofs.Common.{◌<◌, ◌≤◌}
use Rattle.ac_input.specs.Occurrence.{Occurrence}
use Rattle.test_plain.specs.Naive.{PlainOccurs}
use Rattle.test_plain.proofs.plain.Naive.is_covered.Given as goal

abbrev pub invariant-loop-start : goal.invariant-loop-start
invariant-loop-start l = (o : Occurrence) → PlainOccurs l.self o → o.start < l.start → o.end ≤ l.at

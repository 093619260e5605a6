use Rattle.std.proofs.Common.{◌+◌, ◌-◌, ◌≤◌}
use Rattle.ac_literal.specs.Packed.{part_search}
use Rattle.ac_literal.specs.Packed.RabinKarp.{NoneBefore}
use Rattle.ac_literal.proofs.packed.scanner.Scanner.find_in.Given as goal

abbrev pub invariant-loop-at : goal.invariant-loop-at
invariant-loop-at l = record {
  start : l.span.start ≤ l.at;
  none : NoneBefore (part_search l.patterns l.haystack l.span.start l.span.end) l.at;
}

abbrev pub decreases-loop-at : goal.decreases-loop-at
decreases-loop-at l = l.span.end + 1 - l.at

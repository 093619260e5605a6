use Rattle.std.proofs.Common.{◌<◌}
use Rattle.ac_literal.specs.Packed.{part_search}
use Rattle.ac_literal.specs.Packed.Teddy.{HasMarks}
use Rattle.ac_literal.proofs.packed.scanner.Scanner.find_marked.Given as goal

abbrev pub invariant-loop-left : goal.invariant-loop-left
invariant-loop-left l = record {
  few : l.left < 4294967296;
  marks : HasMarks (part_search l.patterns l.haystack l.span.start l.span.end) l.at l.left;
}

abbrev pub decreases-loop-left : goal.decreases-loop-left
decreases-loop-left l = l.left

-- The map has a window of each pattern so far.
use Rattle.std.proofs.Common.{◌+◌, ◌≤◌}
use Rattle.ac_literal.specs.Grams.{HaveWindows}
use Rattle.ac_literal.specs.Packed.{bytes_of}
use Rattle.ac_literal.proofs.openings.grams_of.Given as goal

abbrev pub invariant-loop-pattern : goal.invariant-loop-pattern
invariant-loop-pattern l = record {
  short : l.grams.step + 7 ≤ l.len;
  all : HaveWindows l.grams l.len (bytes_of l.patterns) l.pattern-index;
}

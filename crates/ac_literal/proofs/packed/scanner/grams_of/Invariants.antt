-- The map has a window of each pattern so far.
use Rattle.std.proofs.Common.{◌+◌, ◌≤◌}
use Rattle.ac_literal.specs.Grams.{HaveWindows}
use Rattle.ac_literal.proofs.packed.scanner.grams_of.Given as goal

abbrev pub invariant-loop-number : goal.invariant-loop-number
invariant-loop-number l = record {
  short : l.grams.step + 7 ≤ l.len;
  all : HaveWindows l.grams l.len l.patterns l.number;
}

-- No pattern so far is shorter than the length.
use Rattle.std.proofs.Common.{ℕ, ◌<◌, ◌≤◌, length}
use Rattle.ac_literal.specs.Packed.{bytes_of}
use Rattle.std.specs.Prelude.{get_or, []}
use Rattle.ac_literal.proofs.openings.len_of.Given as goal

abbrev pub invariant-loop-pattern : goal.invariant-loop-pattern
invariant-loop-pattern l = record {
  few : l.len ≤ l.most;
  short : (number : ℕ) → number < l.pattern-index → l.len ≤ length (get_or (bytes_of l.patterns) number []);
}

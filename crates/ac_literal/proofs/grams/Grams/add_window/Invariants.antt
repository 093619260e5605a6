-- The grams so far are in the map, and it keeps what it had.
use Rattle.std.proofs.Common.{ℕ, ◌+◌, ◌<◌}
use Rattle.ac_literal.specs.Grams.{HasGram, KeepsGrams}
use Rattle.ac_literal.proofs.grams.Grams.add_window.Given as goal

abbrev pub invariant-loop-k : goal.invariant-loop-k
invariant-loop-k l = record {
  kept : KeepsGrams l.fn.self l.self;
  grams : (k : ℕ) → k < l.k → HasGram l.self l.pattern (l.first + k);
}

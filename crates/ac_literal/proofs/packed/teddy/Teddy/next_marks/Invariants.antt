use Rattle.std.proofs.Common.{◌≡◌, ℕ, ◌-◌, ◌<◌, ◌≤◌}
use Rattle.ac_literal.specs.Packed.Teddy.{marked_at}
use Rattle.ac_literal.proofs.packed.teddy.Teddy.next_marks.Given as goal

abbrev pub invariant-loop-at : goal.invariant-loop-at
invariant-loop-at l = record {
  after : l.from ≤ l.at;
  within : l.at ≤ l.to;
  passed : (place : ℕ) → l.from ≤ place → place < l.at → marked_at l.self l.haystack place ≡ 0;
}

abbrev pub decreases-loop-at : goal.decreases-loop-at
decreases-loop-at l = l.to - l.at

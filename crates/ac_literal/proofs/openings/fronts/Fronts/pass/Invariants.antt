-- No place that is passed has a mark.
use Rattle.std.proofs.Common.{ℕ, ◌-◌, ◌<◌, ◌≤◌}
use Rattle.ac_literal.specs.Openings.Fronts.{MayOpen}
use Rattle.ac_literal.proofs.openings.fronts.Fronts.pass.Given as goal

abbrev pub invariant-loop-at : goal.invariant-loop-at
invariant-loop-at l = record {
  within : l.at ≤ l.to;
  passed : (place : ℕ) → place < l.at → ¬ MayOpen l.self l.bytes place;
}

abbrev pub decreases-loop-at : goal.decreases-loop-at
decreases-loop-at l = l.to - l.at

-- No window stands in the places so far.
use Rattle.std.proofs.Common.{◌≡◌, ◌-◌, ◌*◌, ◌≤◌, length}
use Rattle.ac_literal.specs.Grams.{HasNoWindow}
use Rattle.ac_literal.proofs.grams.Grams.next_eight.Given as goal

abbrev pub invariant-loop-at : goal.invariant-loop-at
invariant-loop-at l = record {
  whole : l.eight ≡ 8 * l.self.step;
  within : l.at ≤ length l.bytes;
  none : HasNoWindow l.self l.bytes l.at;
}

abbrev pub decreases-loop-at : goal.decreases-loop-at
decreases-loop-at l = length l.bytes - l.at

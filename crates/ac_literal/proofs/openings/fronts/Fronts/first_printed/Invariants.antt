-- Each mark is still left, or the fingerprint of its place isn't in the set.
use Rattle.std.proofs.Common.{◌≡◌, ◌⊎◌, ℕ, ◌+◌, ◌<◌, drop, take}
use Rattle.std.specs.Int.{bit_at}
use Rattle.ac_literal.specs.Openings.Fingerprints.{IsPrinted}
use Rattle.ac_literal.proofs.openings.fronts.Fronts.first_printed.Given as goal

abbrev pub invariant-loop-left : goal.invariant-loop-left
invariant-loop-left l = record {
  few : l.left < 4294967296;
  seen : (k : ℕ) → k < 32 → bit_at l.marks k ≡ 1
      → (bit_at l.left k ≡ 1) ⊎ (¬ IsPrinted l.self.prints (take l.self.len (drop (l.block + k) l.bytes)));
}

abbrev pub decreases-loop-left : goal.decreases-loop-left
decreases-loop-left l = l.left

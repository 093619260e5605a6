-- The bytes so far are replaced by their partners.
use Rattle.std.proofs.Common.{◌≡◌, ℕ, ◌<◌, length, slice_index}
use Rattle.ac_input.specs.Same.{other}
use Rattle.ac_literal.proofs.openings.fronts.partners.Given as goal

abbrev pub invariant-loop-at : goal.invariant-loop-at
invariant-loop-at l =
    (length l.bytes ≡ 4) × ((k : ℕ) → k < l.at → slice_index l.bytes k ≡ other l.pairing (slice_index l.pattern k))

use Rattle.std.proofs.Common.{ℕ, ◌<◌, ◌≤◌, slice_index, IsTrue}
use Rattle.ac_input.specs.Same.{same}
use Rattle.ac_literal.proofs.prefilter.rare_bytes.record.Given as goal

abbrev pub invariant-loop-at : goal.invariant-loop-at
invariant-loop-at l =
    record {
      grown : (byte : ℕ) → slice_index l.initial.distances byte ≤ slice_index l.distances byte;
      reach : (at byte : ℕ) → at < l.at → IsTrue (same l.pairing (slice_index l.pattern at) byte)
          → at ≤ slice_index l.distances byte;
      near : ((byte : ℕ) → slice_index l.initial.distances byte ≤ 254) → (byte : ℕ)
          → slice_index l.distances byte ≤ 254;
    }

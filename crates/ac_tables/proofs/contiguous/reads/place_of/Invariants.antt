use Rattle.std.proofs.Common.{◌≢◌, ℕ, ◌*◌, ◌<◌, get_or}
use Rattle.std.specs.Int.{w32}
use Rattle.std.specs.List.{flat_map}
use Rattle.std.specs.Int.{to_le_bytes}
use Rattle.ac_tables.proofs.contiguous.reads.place_of.Given as goal

abbrev pub invariant-loop-at : goal.invariant-loop-at
invariant-loop-at l = (k : ℕ) → k < 4 * l.at → get_or (flat_map (to_le_bytes w32) l.packed) k 0 ≢ l.class

use Rattle.std.proofs.Common.{◌≡◌, ℕ, ◌<◌, length, get_or}
use Rattle.ac_input.proofs.pairing.identity.Given as goal

abbrev pub invariant-loop-i : goal.invariant-loop-i
invariant-loop-i l = record { len : length l.table ≡ 256; own : (b : ℕ) → b < l.i → get_or l.table b b ≡ b }

use Rattle.std.proofs.Common.{◌≡◌, ℕ, length}
use Rattle.ac_input.specs.Same.{named_for}
use Rattle.ac_input.proofs.pairing.PairingLemmas.{cased}
use Rattle.ac_input.proofs.pairing.Pairing.ascii.Given as goal

abbrev pub invariant-loop-i : goal.invariant-loop-i
invariant-loop-i l = record { len : length l.table ≡ 256; own : (b : ℕ) → named_for l.table b ≡ cased l.i b }

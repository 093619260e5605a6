use Rattle.std.proofs.Common.{◌≡◌, ◌<◌, ℕ, length}
use Rattle.ac_input.specs.Alphabet.{class}
use Rattle.ac_input.proofs.alphabet.byte_classes.ByteClasses.singletons.Given as goal

abbrev pub invariant-loop-i : goal.invariant-loop-i
invariant-loop-i l = record { len : length l.classes ≡ 256; own : (b : ℕ) → b < l.i → class l.classes b ≡ b }

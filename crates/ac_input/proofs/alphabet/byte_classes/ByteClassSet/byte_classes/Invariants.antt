use Rattle.std.proofs.Common.{◌≡◌, ◌≤◌, ◌<◌, ℕ, ◌+◌, if◌then◌else◌, length}
use Rattle.ac_input.specs.Alphabet.{has, class}
use Rattle.ac_input.proofs.alphabet.byte_classes.ByteClassSet.byte_classes.Given as goal

abbrev pub invariant-loop-i : goal.invariant-loop-i
invariant-loop-i l =
    record {
      len : length l.classes ≡ 256;
      fits : l.class ≤ l.i;
      last : class l.classes l.i ≡ l.class;
      first : class l.classes 0 ≡ 0;
      next : (b : ℕ) → b < l.i
          → class l.classes (b + 1) ≡ class l.classes b + (if has l.self-inside.boundaries b then 1 else 0);
    }

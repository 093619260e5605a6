use Rattle.std.proofs.Common.{◌≡◌, drop}
use Rattle.ac_input.specs.Same.{same_text}
use Rattle.test_plain.proofs.plain.is_same.Given as goal

abbrev pub invariant-loop-i : goal.invariant-loop-i
invariant-loop-i l =
    same_text l.pairing (drop l.i l.pattern) (drop l.i l.text) ≡ same_text l.pairing l.pattern l.text

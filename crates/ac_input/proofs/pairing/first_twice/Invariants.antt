use Rattle.std.proofs.Common.{◌≡◌, ℕ, ◌<◌, ◌↔◌, IsTrue, false, length, get_or, take}
use Rattle.std.specs.List.{Contains}
use Rattle.ac_input.specs.Pairing.{named, IsDistinct}
use Rattle.ac_input.proofs.pairing.first_twice.Given as goal

abbrev pub invariant-loop-a : goal.invariant-loop-a
invariant-loop-a l =
    record {
      len : length l.seen ≡ 256;
      distinct : IsDistinct (named (take l.a-index l.pairs));
      marks : (c : ℕ)
          → c < 256 → (IsTrue (get_or l.seen c false) ↔ Contains (named (take l.a-index l.pairs)) c);
    }

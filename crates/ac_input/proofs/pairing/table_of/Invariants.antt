use Rattle.std.proofs.Common.{◌≡◌, ℕ, take}
use Rattle.ac_input.specs.Same.{named_for}
use Rattle.ac_input.specs.Pairing.{partner, IsPairing}
use Rattle.ac_input.proofs.pairing.table_of.Given as goal

abbrev pub invariant-loop-a : goal.invariant-loop-a
invariant-loop-a l =
    record {
      pairing : IsPairing l.table;
      partners : (c : ℕ)
          → named_for l.table c ≡ partner (take l.a-index l.pairs) c;
    }

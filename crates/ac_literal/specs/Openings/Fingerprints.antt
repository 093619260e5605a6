-- Fingerprints of the first bytes of patterns.
use Rattle.std.specs.Prelude.{◌≡◌, ℕ, ◌+◌, ◌-◌, ◌*◌, ◌/◌, ◌%◌, ◌<◌, List, length, slice_index, map, take, get_or, []}
use Rattle.std.specs.Int.{bit_at}
use Rattle.ac_input.specs.Laws.LiveLaws.{canonical}
use Rattle.ac_literal.specs.declared.openings.fingerprints.Fingerprints.{Fingerprints}

-- the fingerprint of some bytes: of the first two and the last two
abbrev pub print : List ℕ → ℕ
print bytes =
    ((((slice_index bytes 0) * 31 + (slice_index bytes 1)) * 961
    + ((slice_index bytes (length bytes - 2)) * 31 + (slice_index bytes (length bytes - 1)))) % 8192)

-- the fingerprint of some bytes, each taken as its canonical byte
abbrev pub print_of : List ℕ → List ℕ → ℕ
print_of pairing bytes = print (map (canonical pairing) bytes)

-- the set has the fingerprint of some bytes
abbrev pub IsPrinted : Fingerprints → List ℕ → Type 0
IsPrinted f bytes = bit_at (slice_index f.bits (print_of f.pairing bytes / 8)) (print_of f.pairing bytes % 8) ≡ 1

-- the new set has all fingerprints of the old one, by the same pairing
pub record KeepsPrints (old new : Fingerprints) : Type 0 where
  pub pairing : new.pairing ≡ old.pairing
  pub has : (bytes : List ℕ) → IsPrinted old bytes → IsPrinted new bytes

-- the set has the fingerprint of the first `len` bytes of each of the first `count` patterns
abbrev pub ArePrinted : List ℕ → ℕ → List (List ℕ) → ℕ → Fingerprints → Type 0
ArePrinted pairing len patterns count f =
    (f.pairing ≡ pairing) × ((number : ℕ) → number < count → IsPrinted f (take len (get_or patterns number [])))

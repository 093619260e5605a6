-- What a pairing is, and which one a list of pairs makes.
use Rattle.std.specs.Prelude.{◌≡◌, ℕ, ◌+◌, ◌-◌, ◌<◌, nat_lt, ◌==◌, ◌&&◌, if◌then◌else◌, Bool, true, false, List, [], ◌∷◌, ◌++◌, length, Contains}
use Rattle.ac_input.specs.declared.pairing.PairingError.{PairingError}
use Rattle.ac_input.specs.declared.pairing.PairingError.TheVariants.{Twice}
use Rattle.ac_input.specs.Same.{named_for, other, IsUnpaired}

-- the table of a pairing: 256 bytes, each named for the byte that it names
pub record IsPairing (table : List ℕ) : Type 0 where
  pub len : length table ≡ 256
  pub bytes : (b : ℕ) → b < 256 → named_for table b < 256
  pub inverse : (b : ℕ) → b < 256 → named_for table (named_for table b) ≡ b

-- the bytes that pairs name, from left to right
abbrev pub named : List (ℕ × ℕ) → List ℕ
named [] = []
named (pair ∷ pairs) = pair.0 ∷ (pair.1 ∷ named pairs)

-- the byte that pairs give a byte: its partner in the first pair that names it, else itself
abbrev pub partner : List (ℕ × ℕ) → ℕ → ℕ
partner [] byte = byte
partner (pair ∷ pairs) byte = if pair.0 == byte then pair.1 else (if pair.1 == byte then pair.0 else partner pairs byte)

-- no element stands twice
abbrev pub IsDistinct : {X : Type 0} → List X → Type 0
IsDistinct [] = Unit {0}
IsDistinct (x ∷ xs) = (¬ Contains xs x) × IsDistinct xs

-- the first byte, from left to right, that was named before
abbrev pub IsFirstTwice : List ℕ → ℕ → Type 0
IsFirstTwice bytes twice =
    (front more : List ℕ) × (bytes ≡ front ++ twice ∷ more) × IsDistinct front × Contains front twice

-- the other case of an ASCII letter, else the byte itself
abbrev pub other_case : ℕ → ℕ
other_case byte =
    if nat_lt 64 byte && nat_lt byte 91 then byte + 32
    else (if nat_lt 96 byte && nat_lt byte 123 then byte - 32 else byte)

-- with case folding the two cases of each ASCII letter are paired; without it no byte is
abbrev pub IsFolded : Bool → List ℕ → Type 0
IsFolded true pairing = (byte : ℕ) → other pairing byte ≡ other_case byte
IsFolded false pairing = IsUnpaired pairing

-- the byte that an error names
abbrev pub twice_of : PairingError → ℕ
twice_of (Twice byte) = byte

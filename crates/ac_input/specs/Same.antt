-- Which bytes, and which texts, count as the same.
use Rattle.std.specs.Prelude.{◌≡◌, ℕ, ◌==◌, ◌||◌, ◌&&◌, Bool, true, false, if◌then◌else◌, List, [], ◌∷◌, get_or}

-- the byte that a table names for a byte
abbrev pub named_for : List ℕ → ℕ → ℕ
named_for pairing byte = get_or pairing byte byte

-- A pairing gives each byte at most one other, which stands for it. It is a table of 256 bytes: two bytes are partners
-- where it names each of them for the other. A byte in no pair is its own partner.
abbrev pub other : List ℕ → ℕ → ℕ
other pairing byte = if named_for pairing (named_for pairing byte) == byte then named_for pairing byte else byte

-- a pairing of no pairs: each byte is its own partner
abbrev pub IsUnpaired : List ℕ → Type 0
IsUnpaired pairing = (byte : ℕ) → other pairing byte ≡ byte

-- two bytes are the same where they are equal or paired
abbrev pub same : List ℕ → ℕ → ℕ → Bool
same pairing a b = (a == b) || (other pairing a == b)

-- two texts are the same where they are as long as each other, and the same byte by byte
abbrev pub same_text : List ℕ → List ℕ → List ℕ → Bool
same_text pairing [] [] = true
same_text pairing [] (y ∷ ys) = false
same_text pairing (x ∷ xs) [] = false
same_text pairing (x ∷ xs) (y ∷ ys) = same pairing x y && same_text pairing xs ys

-- A side is read one byte after another.
use Rattle.std.proofs.Common.{◌≡◌, ◌≢◌, ℕ, List, [], ◌∷◌, ◌++◌, inl, inr, refl, sym, ◌∙◌, subst, arith}
use Rattle.ac_input.specs.Rules.{BeginsWithByte, IsEscape, Spells, Unescapes}
use Rattle.ac_input.proofs.lemmas.EscapeLemmas.{BeginsWithByte-nil, BeginsWithByte-one}
use Rattle.acsub.specs.Rules.Lines.{BeginsWithNoByte}

-- ---- one byte

-- x is no escape of one letter
x_apart : {byte : ℕ} → ¬ IsEscape 120 byte
x_apart p = grind arith

-- a backslash alone stands for no byte
pub no_byte-lone : BeginsWithNoByte (92 ∷ [])
no_byte-lone byte rest (inl (e, other)) = other (cc)
no_byte-lone byte rest (inr (inl (letter, e, is))) = cc
no_byte-lone byte rest (inr (inr (high, low, e, is))) = cc

-- a backslash before a letter that is no escape, and not the x of hex digits, stands for no byte
pub no_byte-letter : (letter : ℕ) (after : List ℕ) → letter ≢ 120 → ((byte : ℕ) → ¬ IsEscape letter byte)
    → BeginsWithNoByte (92 ∷ letter ∷ after)
no_byte-letter letter after apart none byte rest (inl (e, other)) = other (cc)
no_byte-letter letter after apart none byte rest (inr (inl (l, e, is))) =
    let same : l ≡ letter = cc in none byte (subst (λ x. IsEscape x byte) same is)
no_byte-letter letter after apart none byte rest (inr (inr (high, low, e, is))) = apart (cc)

-- nor does a backslash and an x before what doesn't begin with two hex digits
pub no_byte-spelt : (digits : List ℕ)
    → ((high low : ℕ) (rest : List ℕ) (byte : ℕ) → digits ≡ high ∷ low ∷ rest → ¬ Spells (high ∷ low ∷ []) (byte ∷ []))
    → BeginsWithNoByte (92 ∷ 120 ∷ digits)
no_byte-spelt digits none byte rest (inl (e, other)) = other (cc)
no_byte-spelt digits none byte rest (inr (inl (letter, e, is))) =
    let same : letter ≡ 120 = cc in x_apart (subst (λ x. IsEscape x byte) same is)
no_byte-spelt digits none byte rest (inr (inr (high, low, e, is))) = none high low rest byte (cc) is

-- ---- one after another

-- the side begins with what stands for these bytes, and the rest follows
abbrev pub BeginsWithBytes : List ℕ → List ℕ → List ℕ → Type 0
BeginsWithBytes side [] rest = side ≡ rest
BeginsWithBytes side (byte ∷ bytes) rest =
    (after : List ℕ) × BeginsWithByte side byte after × BeginsWithBytes after bytes rest

-- one more byte
pub bytes-push : (side bytes rest : List ℕ) (byte : ℕ) (after : List ℕ) → BeginsWithBytes side bytes rest
    → BeginsWithByte rest byte after → BeginsWithBytes side (bytes ++ byte ∷ []) after
bytes-push side [] rest byte after p q = (after, subst (λ s. BeginsWithByte s byte after) (sym p) q, refl)
bytes-push side (b ∷ bytes) rest byte after p q = (p.0, p.1, bytes-push p.0 bytes rest byte after p.2 q)

-- a side that stands for these bytes up to its end stands for them
pub bytes-all : (side bytes : List ℕ) → BeginsWithBytes side bytes [] → Unescapes side bytes
bytes-all side [] p = p
bytes-all side (b ∷ bytes) p = (p.0, p.1, bytes-all p.0 bytes p.2)

-- if no byte comes next, a side that stands for some bytes is read to its end, and these are they
pub bytes-stuck : (side bytes rest all : List ℕ) → BeginsWithBytes side bytes rest → BeginsWithNoByte rest
    → Unescapes side all → (rest ≡ []) × (bytes ≡ all)
bytes-stuck side [] rest [] p none q = (sym p ∙ q, refl)
bytes-stuck side [] rest (y ∷ ys) p none q =
    absurd (none y q.0 (subst (λ s. BeginsWithByte s y q.0) p q.1))
bytes-stuck side (x ∷ xs) rest [] p none q =
    absurd (BeginsWithByte-nil x p.0 (subst (λ s. BeginsWithByte s x p.0) q p.1))
bytes-stuck side (x ∷ xs) rest (y ∷ ys) p none q =
    let same = BeginsWithByte-one side x y p.0 q.0 p.1 q.1 in
    let ih = bytes-stuck q.0 xs rest ys (subst (λ s. BeginsWithBytes s xs rest) same.1 p.2) none q.2 in
    (ih.0, cc)

-- Which hex spells pairs.
use Rattle.std.proofs.Common.{◌≡◌, ◌∙◌, sym, ap, refl, ◌<◌, ◌*◌, ◌%◌, ℕ, List, [], ◌∷◌, ◌++◌, arith, length, length-append, append-nil, Ok}
use Rattle.std.specs.Prelude.{◌≢◌}
use Rattle.hex.specs.Hex.{decode_of}
use Rattle.ac_input.specs.Pairing.{named}
use Rattle.std.proofs.Common.{◌⊎◌, Err, inl, inr}
use Rattle.hex.specs.declared.error.FromHexError.{FromHexError}
use Rattle.hex.specs.declared.error.FromHexError.TheVariants.{InvalidHexCharacter, InvalidStringLength, OddLength, OutOfMemory}
use Rattle.acsub.specs.Args.Words.{Misspells, SpellsPairs, hex_fault}
use Rattle.acsub.proofs.rules.SpellingLemmas.{Spells-from_decode_of, decode_of-from_spells}

-- a pair names two bytes
pub length-named : (pairs : List (ℕ × ℕ)) → length (named pairs) ≡ 2 * length pairs
length-named [] = refl
length-named (p ∷ ps) = let e = length-named ps in omega (arith, e)

nonempty : (pairs : List (ℕ × ℕ)) → pairs ≢ [] → 0 < length pairs
nonempty [] h = absurd (h refl)
nonempty (p ∷ ps) h = omega arith

-- hex that decodes to no bytes, or to an odd number of them, spells no pairs
pub spells_nothing : (hex bytes : List ℕ) → decode_of hex ≡ Ok bytes → length bytes ≡ 0 → (pairs : List (ℕ × ℕ))
    → SpellsPairs hex pairs → ⊥
spells_nothing hex bytes decoded none pairs h =
    let same : Ok bytes ≡ Ok (named pairs) = sym decoded ∙ decode_of-from_spells hex (named pairs) h.1 in
    let is : bytes ≡ named pairs = cc in
    let some = nonempty pairs h.0 in
    let two = length-named pairs in
    let len : length bytes ≡ length (named pairs) = ap length is in
    omega arith

pub spells_odd : (hex bytes : List ℕ) → decode_of hex ≡ Ok bytes → length bytes % 2 ≡ 1 → (pairs : List (ℕ × ℕ))
    → SpellsPairs hex pairs → ⊥
spells_odd hex bytes decoded odd pairs h =
    let same : Ok bytes ≡ Ok (named pairs) = sym decoded ∙ decode_of-from_spells hex (named pairs) h.1 in
    let is : bytes ≡ named pairs = cc in
    let two = length-named pairs in
    let len : length bytes ≡ length (named pairs) = ap length is in
    omega arith

empty : (xs : List ℕ) → length xs ≡ 0 → xs ≡ []
empty [] h = refl
empty (x ∷ xs) h = absurd (omega arith)

-- hex that decodes to a positive even number of bytes spells pairs
pub spells_these : (hex bytes rest : List ℕ) (pairs : List (ℕ × ℕ)) → decode_of hex ≡ Ok bytes → 0 < length bytes
    → (length bytes % 2 ≡ 1 → ⊥)
    → bytes ≡ named pairs ++ rest → length rest < 2 → SpellsPairs hex pairs
spells_these hex bytes rest pairs decoded some even is short =
    let two = length-named pairs in
    let len : length bytes ≡ length (named pairs ++ rest) = ap length is in
    let sum = length-append (named pairs) rest in
    let none : length rest ≡ 0 = omega (arith, even) in
    let gone : rest ≡ [] = empty rest none in
    let all : bytes ≡ named pairs = is ∙ ap (λ r. named pairs ++ r) gone ∙ append-nil (named pairs) in (
      λ e. let no : length pairs ≡ 0 = ap length e in
          omega arith,
      Spells-from_decode_of hex (named pairs) (decoded ∙ ap Ok all),
    )

spells_none : (hex : List ℕ) (e : FromHexError) → decode_of hex ≡ Err e → (pairs : List (ℕ × ℕ)) → SpellsPairs hex pairs
    → ⊥
spells_none hex e refused pairs h =
    let both : Ok (named pairs) ≡ Err e = sym (decode_of-from_spells hex (named pairs) h.1) ∙ refused in
    cc

-- hex that fails to decode spells no pairs, or memory ran out
pub misspells : (hex : List ℕ) (e : FromHexError) → (e ≡ OutOfMemory) ⊎ (decode_of hex ≡ Err e)
    → Misspells hex (hex_fault e)
misspells hex e (inl memory) = rw memory tt
misspells hex (InvalidHexCharacter c i) (inr refused) = spells_none hex (InvalidHexCharacter c i) refused
misspells hex OddLength (inr refused) = spells_none hex OddLength refused
misspells hex InvalidStringLength (inr refused) = spells_none hex InvalidStringLength refused
misspells hex OutOfMemory (inr refused) = tt

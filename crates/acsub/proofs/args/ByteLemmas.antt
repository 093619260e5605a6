-- Which hex spells one byte.
use Rattle.std.proofs.Common.{◌≡◌, ◌∙◌, ℕ, ◌*◌, List, [], ◌∷◌, length, get_or, Result, Ok, Err, refl, sym, subst, arith}
use Rattle.std.specs.Prelude.{MatchResult}
use Rattle.hex.specs.Hex.{decode_sized}
use Rattle.hex.specs.declared.error.FromHexError.{FromHexError}
use Rattle.hex.proofs.HexLemmas.{decode_sized-ok, decode_sized-twice}
use Rattle.ac_input.specs.Rules.{Spells}
use Rattle.acsub.proofs.rules.SpellingLemmas.{Spells-from_decode_of, Spells-length, decode_of-from_spells}

-- hex of two digits that decodes spells the first byte of what it decodes to
one-byte : (hex bytes : List ℕ) → Spells hex bytes → length hex ≡ 2 → Spells hex (get_or bytes 0 0 ∷ [])
one-byte hex [] spells two = let len = Spells-length hex [] spells in absurd (omega arith)
one-byte hex (b ∷ []) spells two = spells
one-byte hex (b ∷ c ∷ bytes) spells two =
    let len = Spells-length hex (b ∷ c ∷ bytes) spells in absurd (omega arith)

-- what decoding into room for one byte returned, and the byte that stands there then
module _ (hex new : List ℕ) (result : Result (Unit {0}) FromHexError)
    (decoded : MatchResult (decode_sized hex 1) (λ bytes. (result ≡ Ok tt) × (new ≡ bytes)) (λ e. result ≡ Err e)) where
  -- hex that decodes spells the byte
  pub spells-byte : result ≡ Ok tt → Spells hex (get_or new 0 0 ∷ [])
  spells-byte well = go (decode_sized hex 1) refl decoded
    where
      go : (sized : Result (List ℕ) FromHexError) → decode_sized hex 1 ≡ sized
          → MatchResult sized (λ bytes. (result ≡ Ok tt) × (new ≡ bytes)) (λ e. result ≡ Err e)
          → Spells hex (get_or new 0 0 ∷ [])
      go (Ok bytes) is same =
          let two : length hex ≡ 2 * 1 = decode_sized-ok hex 1 bytes is in
          let spells = Spells-from_decode_of hex bytes (sym (decode_sized-twice hex 1 two) ∙ is) in
          subst (λ bs. Spells hex (get_or bs 0 0 ∷ [])) (sym same.1) (one-byte hex bytes spells two)
      go (Err e) is same = cc

  -- hex that doesn't decode spells no byte
  pub spells-no_byte : (e : FromHexError) → result ≡ Err e → (byte : ℕ) → ¬ Spells hex (byte ∷ [])
  spells-no_byte e failed byte spells =
      let two : length hex ≡ 2 * 1 = Spells-length hex (byte ∷ []) spells in
      let is : decode_sized hex 1 ≡ Ok (byte ∷ []) =
      decode_sized-twice hex 1 two ∙ decode_of-from_spells hex (byte ∷ []) spells in
      let told =
      subst (λ sized. MatchResult sized (λ bytes. (result ≡ Ok tt) × (new ≡ bytes)) (λ e. result ≡ Err e)) is decoded in
      let well : result ≡ Ok tt = told.0 in
      cc

-- What the rolling hash preserves.
use Rattle.std.proofs.Common.{◌≡◌, ℕ, suc, ◌+◌, ◌-◌, ◌*◌, ◌%◌, ◌^◌, ◌≤◌, List, [], ◌∷◌, ◌++◌, length, refl, sym, ap, ◌∙◌, arith, pow-suc, mul_assoc, length-append}
use Rattle.std.proofs.lemmas.Nat.{mul-mod_second, pow-add}
use Rattle.std.proofs.Math.Nat.{mul-mod_right}
use Rattle.ac_literal.specs.Packed.RabinKarp.{value_of, hash_of}

-- the value with one more digit at the end
pub value_of-push : (bytes : List ℕ) (byte : ℕ) → value_of (bytes ++ byte ∷ []) ≡ value_of bytes * 2 + byte
unfolding value_of
value_of-push [] byte = let e : 2 ^ 0 ≡ 1 = refl in omega arith
value_of-push (b ∷ bytes) byte =
    let rest = value_of-push bytes byte in
    let longer : length (bytes ++ byte ∷ []) ≡ suc (length bytes) = omega (arith, length-append bytes (byte ∷ [])) in
    let power : b * 2 ^ length (bytes ++ byte ∷ []) ≡ b * 2 ^ length bytes * 2 = ap (λ n. b * 2 ^ n) longer
    ∙ ap (λ p. b * p) (pow-suc 2 (length bytes)) ∙ sym (mul_assoc b (2 ^ length bytes) 2) in
    omega arith

-- the hash with one more byte at the end
pub hash_of-push : (bytes : List ℕ) (byte : ℕ) {h : ℕ} → h ≡ hash_of bytes
    → (h * 2 + byte) % 2 ^ 64 ≡ hash_of (bytes ++ byte ∷ [])
hash_of-push bytes byte is = let e = value_of-push bytes byte in omega arith

-- the hash of no bytes is 0
pub hash_of-nil : 0 ≡ hash_of []
unfolding value_of
hash_of-nil = refl

-- the hash one place further, from the hash here: the first byte leaves, and another one comes
pub hash_of-roll : (first last power : ℕ) (bytes : List ℕ) → power ≡ 2 ^ length bytes % 2 ^ 64
    → ((hash_of (first ∷ bytes) + 2 ^ 64 - first * power % 2 ^ 64) % 2 ^ 64 * 2 + last) % 2 ^ 64
    ≡ hash_of (bytes ++ last ∷ [])
unfolding value_of
hash_of-roll first last power bytes is =
    let taken : first * power % 2 ^ 64 ≡ first * 2 ^ length bytes % 2 ^ 64 = ap (λ f. first * f % 2 ^ 64) is
    ∙ mul-mod_second first (2 ^ length bytes) (2 ^ 64) in
    let next = value_of-push bytes last in
    let whole : value_of (first ∷ bytes) ≡ first * 2 ^ length bytes + value_of bytes = refl in
    omega arith

-- a high power has no low bits
pub power-past : {n : ℕ} → 64 ≤ n → 0 ≡ 2 ^ n % 2 ^ 64
power-past {n} h =
    let split : 64 + (n - 64) ≡ n = omega arith in
    let power : 2 ^ n ≡ 2 ^ 64 * 2 ^ (n - 64) = ap (λ k. 2 ^ k) (sym split) ∙ pow-add 2 64 (n - 64) in
    sym (ap (λ k. k % 2 ^ 64) power ∙ mul-mod_right (2 ^ 64) (2 ^ (n - 64)))

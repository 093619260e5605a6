-- Sets of bytes, and the classes between boundaries.
use Rattle.std.proofs.Common.{◌≡◌, ◌≢◌, ℕ, zero, suc, ◌+◌, ◌-◌, ◌^◌, ◌<◌, ◌≤◌, ◌==◌, false, List, [], ◌∷◌, refl, ap, arith, inl, inr, replicate, filter}
use Rattle.std.specs.List.{range_with_len}
use Rattle.std.proofs.lemmas.Bool.Decides.{nat_tests}
use Rattle.std.proofs.lemmas.Bool.{cases_lt}
use Rattle.std.proofs.Math.Nat.{pow-le-pow_right}
use Rattle.ac_input.specs.Alphabet.{has, class, alphabet_len, IsClasses, IsLeastExponent, elements_from}

-- a table of flags that are all down has no byte
pub has-none : (n b : ℕ) → has (replicate n false) b ≡ false
has-none zero b = refl
has-none (suc n) zero = refl
has-none (suc n) (suc b) = has-none n b

-- an exponent that is enough is the least if the one before it isn't
pub IsLeastExponent-next : {n : ℕ} (k : ℕ) → n ≤ 2 ^ (k + 1) → 2 ^ k < n → IsLeastExponent n (k + 1)
IsLeastExponent-next k enough more =
    record {
      enough = enough;
      least = λ e h.
          elim (cases_lt k e) as (λ _. k + 1 ≤ e) [
            | inl above ↦ omega arith
            | inr below ↦ let small : 2 ^ e ≤ 2 ^ k = pow-le-pow_right (omega arith) below in absurd (omega arith)
          ];
    }

-- classes rise with their bytes
pub class-rises : {classes : List ℕ} (b n : ℕ) → IsClasses classes → b + n ≤ 255
    → class classes b ≤ class classes (b + n)
class-rises {classes} b zero is h =
    let same : b + 0 ≡ b = omega arith in
    let here = ap (class classes) same in
    omega arith
class-rises {classes} b (suc n) is h =
    let before = class-rises b n is (omega arith) in
    let same : b + suc n ≡ b + n + 1 = omega arith in
    let here = ap (class classes) same in
    elim (is.next (b + n) (omega arith)) as (λ _. class classes b ≤ class classes (b + suc n)) [
      | inl e ↦ omega arith
      | inr e ↦ omega arith
    ]

-- the class of a byte is one of the classes
pub class-within : {classes : List ℕ} {b : ℕ} → IsClasses classes → b < 256 → class classes b < alphabet_len classes
class-within {classes} {b} is h =
    let rises = class-rises b (255 - b) is (omega arith) in
    let end : b + (255 - b) ≡ 255 = omega arith in
    let last = ap (class classes) end in
    omega arith

-- a range that isn't empty is its first number and the rest
pub range-first : {a end : ℕ} → a < end → range_with_len a (end - a) ≡ a ∷ range_with_len (a + 1) (end - (a + 1))
range-first {a} {end} h =
    let one : end - a ≡ suc (end - (a + 1)) = omega arith in
    ap (range_with_len a) one

-- from a byte that is in the class, the bytes of the class are that byte and those after it
pub elements-in : (classes : List ℕ) {wanted at : ℕ} → at < 256 → class classes at ≡ wanted
    → elements_from classes wanted at (256 - at) ≡ at ∷ elements_from classes wanted (at + 1) (256 - (at + 1))
elements-in classes {wanted} {at} h is =
    let split : elements_from classes wanted at (256 - at)
    ≡ filter (λ b. class classes b == wanted) (at ∷ range_with_len (at + 1) (256 - (at + 1))) =
    ap (filter (λ b. class classes b == wanted)) (range-first h) in
    grind (arith, nat_tests)

-- from a byte that isn't in the class, the bytes of the class are those after it
pub elements-out : (classes : List ℕ) {wanted at : ℕ} → at < 256 → class classes at ≢ wanted
    → elements_from classes wanted at (256 - at) ≡ elements_from classes wanted (at + 1) (256 - (at + 1))
elements-out classes {wanted} {at} h isnt =
    let split : elements_from classes wanted at (256 - at)
    ≡ filter (λ b. class classes b == wanted) (at ∷ range_with_len (at + 1) (256 - (at + 1))) =
    ap (filter (λ b. class classes b == wanted)) (range-first h) in
    grind (arith, nat_tests)

-- no byte is left after the last one
pub elements-end : (classes : List ℕ) (wanted at : ℕ) → at ≡ 256 → elements_from classes wanted at (256 - at) ≡ []
elements-end classes wanted at end =
    let none : 256 - at ≡ 0 = omega arith in
    ap (elements_from classes wanted at) none

-- What a map of grams has, and where no window stands.
use Rattle.std.proofs.Common.{◌≡◌, ℕ, ◌+◌, ◌-◌, ◌*◌, ◌/◌, ◌%◌, ◌^◌, ◌<◌, ◌≤◌, inl, inr, List, [], ◌∷◌, length, take, get_or, sym, subst, ◌∙◌, arith, ap, ap₂}
use Rattle.std.specs.Int.{bit_at, w64, from_le_bytes}
use Rattle.std.proofs.lemmas.Bool.{cases_eq, cases_lt}
use Rattle.ac_literal.specs.declared.grams.Grams.{Grams}
use Rattle.ac_literal.specs.Grams.{AreSameGrams, HasGram, HasNoWindow, HasWindow, HaveWindows, KeepsGrams, MayStart}
use Rattle.ac_literal.specs.Grams.Numbers.{gram_number}

-- after a look at one more place that isn't marked, no window stands before the next one
pub none-more : (g : Grams) (text : List ℕ) {at : ℕ} → ¬ HasGram g text at → HasNoWindow g text at
    → HasNoWindow g text (at + g.step)
none-more g text {at} unmarked none first within window = elim (cases_lt at (first + g.step)) [
  | inl here ↦
      let place : first + (at - first) ≡ at = omega (arith, within, here) in
      unmarked (subst (HasGram g text) place (window (at - first) (omega (arith, within, here))))
  | inr before ↦ none first before window
]

-- a map keeps a window
pub keeps-window : {old new : Grams} {pattern : List ℕ} → KeepsGrams old new → HasWindow old pattern
    → HasWindow new pattern
keeps-window {pattern} keeps has = record {
  first = has.first;
  within = omega (arith, keeps.step, has.within);
  near = omega (arith, keeps.step, keeps.most, has.near);
  grams = λ k within. keeps.has pattern (has.first + k) (has.grams k (omega (arith, within, keeps.step)));
}

-- what two steps keep, both together keep
pub keeps-again : {a b c : Grams} → KeepsGrams a b → KeepsGrams b c → KeepsGrams a c
keeps-again one two = record {
  step = two.step ∙ one.step;
  most = omega (arith, one.most, two.most);
  has = λ text at had. two.has text at (one.has text at had);
}

-- the grams so far are in the map, and one more
pub window-more : {old new : Grams} (pattern : List ℕ) (first : ℕ) {count : ℕ} → KeepsGrams old new
    → ((k : ℕ) → k < count → HasGram old pattern (first + k)) → HasGram new pattern (first + count)
    → (k : ℕ) → k < count + 1 → HasGram new pattern (first + k)
window-more {new} pattern first {count} keeps so_far own k within = elim (cases_eq k count) [
  | inl here ↦ subst (λ j. HasGram new pattern (first + j)) (sym here) own
  | inr apart ↦ keeps.has pattern (first + k) (so_far k (omega (arith, within, apart)))
]

-- ---- a text that has the bytes of a pattern

-- eight equal bytes make one number
number-alike : {a b c d e f g h i j k l m n o p : ℕ} → a ≡ i → b ≡ j → c ≡ k → d ≡ l → e ≡ m → f ≡ n → g ≡ o → h ≡ p
    → from_le_bytes w64 (a ∷ b ∷ c ∷ d ∷ e ∷ f ∷ g ∷ h ∷ []) ≡ from_le_bytes w64 (i ∷ j ∷ k ∷ l ∷ m ∷ n ∷ o ∷ p ∷ [])
number-alike p0 p1 p2 p3 p4 p5 p6 p7 =
    ap (from_le_bytes w64)
    (ap₂ (λ x xs. x ∷ xs) p0 (ap₂ (λ x xs. x ∷ xs) p1 (ap₂ (λ x xs. x ∷ xs) p2 (ap₂ (λ x xs. x ∷ xs) p3
    (ap₂ (λ x xs. x ∷ xs) p4 (ap₂ (λ x xs. x ∷ xs) p5 (ap₂ (λ x xs. x ∷ xs) p6 (ap (λ x. x ∷ []) p7))))))))

module _ (pattern text : List ℕ) (at : ℕ)
    (alike : (k : ℕ) → k < length pattern → get_or text (at + k) 0 ≡ get_or pattern k 0) where
  -- the text has a later byte of the pattern
  byte-there : (offset k : ℕ) → offset + k < length pattern
      → get_or text (at + offset + k) 0 ≡ get_or pattern (offset + k) 0
  byte-there offset k within =
      let place : at + (offset + k) ≡ at + offset + k = omega arith in
      subst (λ i. get_or text i 0 ≡ get_or pattern (offset + k) 0) place (alike (offset + k) within)

  -- the text has the pattern's grams
  gram-there : (offset : ℕ) → offset + 8 ≤ length pattern → gram_number text (at + offset) ≡ gram_number pattern offset
  unfolding gram_number
  gram-there offset within =
      ap (λ w. w * 11400714819323198485 % 2 ^ 64 / 2 ^ 48)
      (number-alike (alike offset (omega (arith, within))) (byte-there offset 1 (omega (arith, within)))
      (byte-there offset 2 (omega (arith, within))) (byte-there offset 3 (omega (arith, within)))
      (byte-there offset 4 (omega (arith, within))) (byte-there offset 5 (omega (arith, within)))
      (byte-there offset 6 (omega (arith, within))) (byte-there offset 7 (omega (arith, within))))

  -- where a text has the bytes of a pattern, a pattern may begin
  pub bytes-begin : {g : Grams} → HasWindow g pattern → MayStart g text at
  bytes-begin {g} has = record {
    first = has.first;
    near = has.near;
    grams = λ k within.
        let room = has.within in
        let place : at + (has.first + k) ≡ at + has.first + k = omega arith in
        subst (HasGram g text) place
        (subst (λ n. bit_at (get_or g.bits.items (n / 8) 0) (n % 8) ≡ 1)
        (sym (gram-there (has.first + k) (omega (arith, within, room)))) (has.grams k within));
  }

-- ---- windows of several patterns

-- one more pattern has a window in the map
pub windows-more : (len : ℕ) (patterns : List (List ℕ)) {count : ℕ} {old new : Grams} → KeepsGrams old new
    → HaveWindows old len patterns count → HasWindow new (take len (get_or patterns count []))
    → HaveWindows new len patterns (count + 1)
windows-more len patterns {count} {new} keeps so_far own number within = elim (cases_eq number count) [
  | inl here ↦ subst (λ n. HasWindow new (take len (get_or patterns n []))) (sym here) own
  | inr apart ↦ keeps-window keeps (so_far number (omega (arith, within, apart)))
]

-- where a pattern may begin by a map, it may begin by a copy
pub same-start : {g copy : Grams} {text : List ℕ} {at : ℕ} → AreSameGrams g copy → MayStart g text at
    → MayStart copy text at
same-start {g} {copy} {text} {at} same may =
    let step = same.step in
    let most = same.most in
    let near = may.near in
    record {
      first = may.first;
      near = omega (arith, step, most, near);
      grams = λ k within.
          subst
          (λ bits. bit_at (get_or bits (gram_number text (at + may.first + k) / 8) 0)
          (gram_number text (at + may.first + k) % 8) ≡ 1)
          (sym same.bits) (may.grams k (omega (arith, within, step)));
    }

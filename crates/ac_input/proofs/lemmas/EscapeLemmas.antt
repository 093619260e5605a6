-- Laws of text with escapes, and that each line of text is one rule at most.
use Rattle.std.proofs.Common.{◌≡◌, ℕ, ◌<◌, List, [], ◌∷◌, length, inl, inr, refl, sym, ap, ◌∙◌, subst, arith}
use Rattle.ac_input.specs.Rules.{BeginsWithByte, BeginsWithEscapedRule, BeginsWithTextRule, IsEscape, Rule, Spells, Unescapes}
use Rattle.ac_input.proofs.lemmas.RuleFileLemmas.{IsLineOf}
use Rattle.ac_input.proofs.lemmas.RuleLemmas.{Spells-one}
use Rattle.ac_input.proofs.lemmas.TextRuleLemmas.{BeginsWithTextRule-length, BeginsWithTextRule-one}

-- ---- one byte

-- a letter is the escape of one byte at most
IsEscape-one : {letter one other : ℕ} → IsEscape letter one → IsEscape letter other → one ≡ other
IsEscape-one p q = grind arith

-- \\x is no escape of one letter
IsEscape-apart : {byte : ℕ} → ¬ IsEscape 120 byte
IsEscape-apart p = grind arith

-- two digits spell one byte at most
digits_one : (high low one other : ℕ) → Spells (high ∷ low ∷ []) (one ∷ []) → Spells (high ∷ low ∷ []) (other ∷ [])
    → one ≡ other
digits_one high low one other p q =
    let same = Spells-one (high ∷ low ∷ []) (one ∷ []) (other ∷ []) p q in cc

-- a side begins with one byte at most, and has one rest
pub BeginsWithByte-one : (side : List ℕ) (one other : ℕ) (m n : List ℕ) → BeginsWithByte side one m
    → BeginsWithByte side other n → (one ≡ other) × (m ≡ n)
BeginsWithByte-one side one other m n (inl p) (inl q) = let e = sym p.0 ∙ q.0 in (cc, cc)
BeginsWithByte-one side one other m n (inl p) (inr (inl q)) = let e = sym p.0 ∙ q.1 in absurd (p.1 (cc))
BeginsWithByte-one side one other m n (inl p) (inr (inr q)) = let e = sym p.0 ∙ q.2 in absurd (p.1 (cc))
BeginsWithByte-one side one other m n (inr (inl p)) (inl q) = let e = sym q.0 ∙ p.1 in absurd (q.1 (cc))
BeginsWithByte-one side one other m n (inr (inl p)) (inr (inl q)) =
    let e = sym p.1 ∙ q.1 in
    let letter : p.0 ≡ q.0 = cc in
    (IsEscape-one (subst (λ l. IsEscape l one) letter p.2) q.2, cc)
BeginsWithByte-one side one other m n (inr (inl p)) (inr (inr q)) =
    let e = sym p.1 ∙ q.2 in
    let letter : p.0 ≡ 120 = cc in absurd (IsEscape-apart (subst (λ l. IsEscape l one) letter p.2))
BeginsWithByte-one side one other m n (inr (inr p)) (inl q) = let e = sym q.0 ∙ p.2 in absurd (q.1 (cc))
BeginsWithByte-one side one other m n (inr (inr p)) (inr (inl q)) =
    let e = sym q.1 ∙ p.2 in
    let letter : q.0 ≡ 120 = cc in absurd (IsEscape-apart (subst (λ l. IsEscape l other) letter q.2))
BeginsWithByte-one side one other m n (inr (inr p)) (inr (inr q)) =
    let e = sym p.2 ∙ q.2 in
    let high : p.0 ≡ q.0 = cc in
    let low : p.1 ≡ q.1 = cc in
    let mine : Spells (q.0 ∷ q.1 ∷ []) (one ∷ []) = rw (← high, ← low) p.3 in
    (digits_one q.0 q.1 one other mine q.3, cc)

-- what follows a byte is shorter than the side
pub BeginsWithByte-length : (side : List ℕ) (byte : ℕ) (rest : List ℕ) → BeginsWithByte side byte rest
    → length rest < length side
BeginsWithByte-length side byte rest (inl p) = omega (arith, ap length p.0)
BeginsWithByte-length side byte rest (inr (inl p)) = omega (arith, ap length p.1)
BeginsWithByte-length side byte rest (inr (inr p)) = omega (arith, ap length p.2)

-- nothing begins with no byte
pub BeginsWithByte-nil : (byte : ℕ) (rest : List ℕ) → ¬ BeginsWithByte [] byte rest
BeginsWithByte-nil byte rest p = let short = BeginsWithByte-length [] byte rest p in omega (arith, short)

-- ---- one side

-- a side stands for one list of bytes at most
pub Unescapes-one : (side one other : List ℕ) → Unescapes side one → Unescapes side other → one ≡ other
Unescapes-one side [] [] p q = refl
Unescapes-one side [] (y ∷ ys) p q = absurd (BeginsWithByte-nil y q.0 (subst (λ s. BeginsWithByte s y q.0) p q.1))
Unescapes-one side (x ∷ xs) [] p q = absurd (BeginsWithByte-nil x p.0 (subst (λ s. BeginsWithByte s x p.0) q p.1))
Unescapes-one side (x ∷ xs) (y ∷ ys) p q =
    let same = BeginsWithByte-one side x y p.0 q.0 p.1 q.1 in
    let ih = Unescapes-one q.0 xs ys (subst (λ s. Unescapes s xs) same.1 p.2) q.2 in
    cc

-- ---- one line

-- lines of plain text
pub IsLineOf-text : IsLineOf BeginsWithTextRule
IsLineOf-text = record { once = BeginsWithTextRule-one; shorter = λ text rule more p. BeginsWithTextRule-length p }

-- a text begins with at most one rule with escapes
BeginsWithEscapedRule-one : (text : List ℕ) (one other : Rule) (m n : List ℕ) → BeginsWithEscapedRule text one m
    → BeginsWithEscapedRule text other n → (one ≡ other) × (m ≡ n)
BeginsWithEscapedRule-one text one other m n p q =
    let same = BeginsWithTextRule-one text p.0 q.0 m n p.1 q.1 in
    let pattern = Unescapes-one q.0.0 one.0 other.0 (subst (λ (w : Rule). Unescapes w.0 one.0) same.0 p.2) q.2 in
    let replacement = Unescapes-one q.0.1 one.1 other.1 (subst (λ (w : Rule). Unescapes w.1 one.1) same.0 p.3) q.3 in
    let rules : one ≡ other = ap (λ x. let r : Rule = (x, one.1) in r) pattern
    ∙ ap (λ x. let r : Rule = (other.0, x) in r) replacement in
    (rules, same.1)

-- lines of text with escapes
pub IsLineOf-escaped : IsLineOf BeginsWithEscapedRule
IsLineOf-escaped =
    record { once = BeginsWithEscapedRule-one; shorter = λ text rule more p. BeginsWithTextRule-length p.1 }

-- Laws of a line of plain text.
use Rattle.std.proofs.Common.{◌≡◌, ◌≢◌, inl, inr, ℕ, ◌<◌, List, [], ◌∷◌, ◌++◌, length, Contains, refl, sym, ap, ◌∙◌, subst, length-append, arith}
use Rattle.std.proofs.lemmas.List.{nil_from_length}
use Rattle.ac_input.specs.Rules.{AreSidesOf, BeginsWithTextRule, BeginsWithWritten, IsWrittenAs, Rule}
use Rattle.ac_input.proofs.lemmas.RuleOrderLemmas.{BeginsWithNone, Contains-between, Without-from_missing, split_one}

-- ---- one rule

-- a text has at most one first line, as it is written, and one rest
pub BeginsWithWritten-one : {text one other m n : List ℕ} → BeginsWithWritten text one m
    → BeginsWithWritten text other n → (one ≡ other) × (m ≡ n)
BeginsWithWritten-one {one} {other} (p, inl e) (q, inl f) =
    split_one 10 one other (Without-from_missing one p) (Without-from_missing other q) (sym e ∙ f)
BeginsWithWritten-one {one} {m} (p, inl e) (q, inr f) =
    absurd (q (subst (λ t. Contains t 10) (sym e ∙ f.0) (Contains-between one m)))
BeginsWithWritten-one {other} {n} (p, inr e) (q, inl f) =
    absurd (p (subst (λ t. Contains t 10) (sym f ∙ e.0) (Contains-between other n)))
BeginsWithWritten-one (p, inr e) (q, inr f) = (sym e.0 ∙ f.0, e.1 ∙ sym f.1)

-- lists that are equal with one byte appended are equal
before_last : (b : ℕ) (p q : List ℕ) → p ++ b ∷ [] ≡ q ++ b ∷ [] → p ≡ q
before_last b [] [] e = refl
before_last b [] (y ∷ []) e = cc
before_last b [] (y ∷ z ∷ q) e = cc
before_last b (x ∷ []) [] e = cc
before_last b (x ∷ z ∷ p) [] e = cc
before_last b (x ∷ p) (y ∷ q) e = let ih = before_last b p q (cc) in cc

-- the written bytes are those of at most one line
pub IsWrittenAs-one : {written one other : List ℕ} → IsWrittenAs one written → IsWrittenAs other written → one ≡ other
IsWrittenAs-one {one} {other} (inl e) (inl f) = before_last 13 one other (sym e ∙ f)
IsWrittenAs-one {one} (inl e) (inr f) = absurd (f.1 one e)
IsWrittenAs-one {other} (inr e) (inl f) = absurd (e.1 other f)
IsWrittenAs-one (inr e) (inr f) = sym e.0 ∙ f.0

-- rules with the same sides are equal
pair_one : {one other : Rule} → one.0 ≡ other.0 → one.1 ≡ other.1 → one ≡ other
pair_one {one} {other} p q = ap (λ x. let r : Rule = (x, one.1) in r) p ∙ ap (λ x. let r : Rule = (other.0, x) in r) q

-- a line has only one pair of sides
pub AreSidesOf-one : {line : List ℕ} {one other : Rule} → AreSidesOf line one → AreSidesOf line other → one ≡ other
AreSidesOf-one {one} {other} (p, inl e) (q, inl f) =
    let sides = split_one 9 one.0 other.0 (Without-from_missing one.0 p) (Without-from_missing other.0 q) (sym e ∙ f) in
    pair_one sides.0 sides.1
AreSidesOf-one {one} (p, inl e) (q, inr f) =
    absurd (q (subst (λ t. Contains t 9) (sym e ∙ f.0) (Contains-between one.0 one.1)))
AreSidesOf-one {other} (p, inr e) (q, inl f) =
    absurd (p (subst (λ t. Contains t 9) (sym f ∙ e.0) (Contains-between other.0 other.1)))
AreSidesOf-one (p, inr e) (q, inr f) = pair_one (sym e.0 ∙ f.0) (e.1 ∙ sym f.1)

-- a text has at most one pair of sides of its first line, and one rest
first_one : {text : List ℕ} {one other : Rule} {m n written line written' line' : List ℕ}
    → BeginsWithWritten text written m → IsWrittenAs line written → AreSidesOf line one
    → BeginsWithWritten text written' n → IsWrittenAs line' written' → AreSidesOf line' other → (one ≡ other) × (m ≡ n)
first_one {one} {line} p q r x y z =
    let cut = BeginsWithWritten-one p x in
    let same = IsWrittenAs-one (subst (IsWrittenAs line) cut.0 q) y in
    (AreSidesOf-one (subst (λ t. AreSidesOf t one) same r) z, cut.1)

-- a text begins with at most one rule and one rest
pub BeginsWithTextRule-one : (text : List ℕ) (one other : Rule) (m n : List ℕ) → BeginsWithTextRule text one m
    → BeginsWithTextRule text other n → (one ≡ other) × (m ≡ n)
BeginsWithTextRule-one text one other m n p q = first_one p.2 p.3 p.4.0 q.2 q.3 q.4.0

-- a text whose first line has sides that are no rule begins with none
pub BeginsWithNone-from_sides : {text written line more : List ℕ} {sides : Rule}
    → BeginsWithWritten text written more → IsWrittenAs line written → AreSidesOf line sides
    → ¬ ((sides.0 ≢ []) × ¬ Contains sides.1 9) → BeginsWithNone BeginsWithTextRule text
BeginsWithNone-from_sides p q r none rule rest begins =
    let same = first_one begins.2 begins.3 begins.4.0 p q r in
    none (subst (λ s. (s.0 ≢ []) × ¬ Contains s.1 9) same.0 (begins.4.1, begins.4.2))

-- the line of a rule is not empty
line_filled : {line : List ℕ} {rule : Rule} → (AreSidesOf line rule × (rule.0 ≢ []) × ¬ Contains rule.1 9)
    → length line ≢ 0
line_filled ((tab, inl e), some, c) none = omega (arith, simp length-append at (ap length e))
line_filled {line} ((tab, inr e), some, c) none = some (sym e.0 ∙ nil_from_length line none)

-- the rest after a rule is shorter than the text
pub BeginsWithTextRule-length : {text : List ℕ} {rule : Rule} {more : List ℕ} → BeginsWithTextRule text rule more
    → length more < length text
BeginsWithTextRule-length (written, line, (feed, inl e), whole, is) = omega (arith, simp length-append at (ap length e))
BeginsWithTextRule-length (written, line, (feed, inr e), inl cr, is) =
    omega (arith, ap length e.0, ap length e.1, simp length-append at (ap length cr))
BeginsWithTextRule-length (written, line, (feed, inr e), inr whole, is) =
    omega (arith, ap length e.0, ap length e.1, ap length whole.0, line_filled is)

-- Laws of a rule file of text, by what it means that a text begins with a rule.
use Rattle.std.proofs.Common.{◌≡◌, ℕ, ◌+◌, ◌<◌, List, [], length, inl, inr, sym, ap, ◌∙◌, subst, arith}
use Rattle.ac_input.specs.Rules.{BeginsWithAll, EndsRulesAt, FirstBadLineOf, IsFileOf, Rule}
use Rattle.ac_input.proofs.lemmas.RuleOrderLemmas.{BeginsWithNone, all-one_until}

-- A text begins with at most one rule and one rest, and the rest is shorter.
pub record IsLineOf (begins : List ℕ → Rule → List ℕ → Type 0) : Type 0 where
  pub once : (text : List ℕ) (one other : Rule) (m n : List ℕ) → begins text one m → begins text other n
      → (one ≡ other) × (m ≡ n)
  pub shorter : (text : List ℕ) (rule : Rule) (more : List ℕ) → begins text rule more → length more < length text

module _ (begins : List ℕ → Rule → List ℕ → Type 0) (is : IsLineOf begins) where
  -- the empty text begins with no rule
  BeginsWithNone-nil : BeginsWithNone begins []
  BeginsWithNone-nil rule more p = let short = is.shorter [] rule more p in omega (arith, short)

  -- a text is a rule file in at most one way
  pub IsFileOf-one : (text : List ℕ) (one other : List Rule) → IsFileOf begins text one → IsFileOf begins text other
      → one ≡ other
  IsFileOf-one text one other p q =
      (all-one_until begins is.once text one other p.1 q.1 BeginsWithNone-nil BeginsWithNone-nil).0

  -- rules end at one line at most
  EndsRulesAt-one : (text : List ℕ) (one other : ℕ) → EndsRulesAt begins text one → EndsRulesAt begins text other
      → one ≡ other
  EndsRulesAt-one text one other p q =
      let same = all-one_until begins is.once text p.0 q.0 p.2 q.2 p.5 q.5 in
      p.3 ∙ ap (λ rules. length rules + 1) same.0 ∙ sym q.3

  -- a text has at most one first bad line
  pub FirstBadLineOf-one : (text : List ℕ) (one other : ℕ) → FirstBadLineOf begins text one
      → FirstBadLineOf begins text other → one ≡ other
  FirstBadLineOf-one text one other (inl p) (inl q) = p.1 ∙ sym q.1
  FirstBadLineOf-one text one other (inl p) (inr q) = absurd (q.0 p.0)
  FirstBadLineOf-one text one other (inr p) (inl q) = absurd (p.0 q.0)
  FirstBadLineOf-one text one other (inr p) (inr q) = EndsRulesAt-one text one other p.1 q.1

  -- a rule file has no bad line
  pub FirstBadLineOf-none : (text : List ℕ) (n : ℕ) (rules : List Rule) → IsFileOf begins text rules
      → ¬ FirstBadLineOf begins text n
  FirstBadLineOf-none text n rules p (inl q) = p.0 q.0
  FirstBadLineOf-none text n rules p (inr q) =
      let end = q.1 in
      let same = all-one_until begins is.once text rules end.0 p.1 end.2 BeginsWithNone-nil end.5 in
      end.4 (sym same.1)

  -- in a rule file, rules up to a rest that begins with none are all its rules
  pub IsFileOf-from_none : (text : List ℕ) (all rules : List Rule) (more : List ℕ) → IsFileOf begins text all
      → BeginsWithAll begins text rules more → BeginsWithNone begins more → IsFileOf begins text rules
  IsFileOf-from_none text all rules more p q none =
      let same = all-one_until begins is.once text all rules p.1 q BeginsWithNone-nil none in
      subst (λ rs. IsFileOf begins text rs) same.0 p

-- Rules one after another, for either form of a rule; and how a byte splits a text.
use Rattle.std.proofs.Common.{◌≡◌, ◌≢◌, ℕ, suc, ◌+◌, ◌<◌, ◌≤◌, List, [], ◌∷◌, ◌++◌, length, Contains, refl, sym, ap, ◌∙◌, arith}
use Rattle.std.proofs.lemmas.List.Elements.{Contains-append_right}
use Rattle.ac_input.specs.Rules.{BeginsWithAll, Rule}

-- ---- a byte in a text

-- a byte is not in a list
abbrev pub Without : ℕ → List ℕ → Type 0
Without b [] = Unit {0}
Without b (x ∷ xs) = (x ≢ b) × Without b xs

-- a text is split in only one way at the first place of a byte
pub split_one : (b : ℕ) (p : List ℕ) {q : List ℕ} (r : List ℕ) {s : List ℕ} → Without b p → Without b r
    → p ++ b ∷ q ≡ r ++ b ∷ s → (p ≡ r) × (q ≡ s)
split_one b [] [] hp hr e = (refl, cc)
split_one b [] (y ∷ r) hp hr e = absurd (hr.0 (cc))
split_one b (x ∷ p) [] hp hr e = absurd (hp.0 (cc))
split_one b (x ∷ p) {q} (y ∷ r) {s} hp hr e =
    let ih = split_one b p {q = q} r {s = s} hp.1 hr.1 (cc) in (cc, ih.1)

-- a byte that isn't found in a list differs from each of its bytes
pub Without-from_missing : {b : ℕ} (xs : List ℕ) → ¬ Contains xs b → Without b xs
Without-from_missing [] p = tt
Without-from_missing (x ∷ xs) p =
    (λ e. p (0, omega arith, e), Without-from_missing xs (λ q. p (suc q.0, omega arith, q.2)))

-- the byte between two lists is found in them
pub Contains-between : {b : ℕ} (front after : List ℕ) → Contains (front ++ b ∷ after) b
Contains-between {b} front after = Contains-append_right front (b ∷ after) b (0, omega arith, refl)

-- ---- rules one after another

-- a text begins with no rule
abbrev pub BeginsWithNone : (List ℕ → Rule → List ℕ → Type 0) → List ℕ → Type 0
BeginsWithNone begins text = (rule : Rule) (more : List ℕ) → ¬ begins text rule more

module _ (begins : List ℕ → Rule → List ℕ → Type 0) where
  -- one more rule at the end
  pub all-push : (text : List ℕ) (rules : List Rule) {more : List ℕ} {rule : Rule} {rest : List ℕ}
      → BeginsWithAll begins text rules more → begins more rule rest
      → BeginsWithAll begins text (rules ++ rule ∷ []) rest
  all-push text [] {rest} p q = (rest, rw p q, refl)
  all-push text (r ∷ rules) p q = (p.0, p.1, all-push p.0 rules p.2 q)

  -- where a rule always takes bytes, there are no more rules than bytes
  pub all-length : ((text : List ℕ) (rule : Rule) (more : List ℕ) → begins text rule more → length more < length text)
      → (text : List ℕ) (rules : List Rule) (more : List ℕ) → BeginsWithAll begins text rules more
      → length more + length rules ≤ length text
  all-length shorter text [] more p = omega (arith, ap length p)
  all-length shorter text (r ∷ rules) more p =
      omega (arith, shorter text r p.0 p.1, all-length shorter p.0 rules more p.2)

  -- Where a text begins with at most one rule and rest, it has at most one list of rules up to a rest that begins with
  -- none.
  pub all-one_until : ((text : List ℕ) (one other : Rule) (m n : List ℕ) → begins text one m → begins text other n
      → (one ≡ other) × (m ≡ n))
      → (text : List ℕ) (one other : List Rule) {m n : List ℕ} → BeginsWithAll begins text one m
      → BeginsWithAll begins text other n → BeginsWithNone begins m → BeginsWithNone begins n → (one ≡ other) × (m ≡ n)
  all-one_until once text [] [] p q x y = (refl, sym p ∙ q)
  all-one_until once text [] (s ∷ other) p q x y = absurd (x s q.0 (rw p at q.1))
  all-one_until once text (r ∷ one) [] p q x y = absurd (y r p.0 (rw q at p.1))
  all-one_until once text (r ∷ one) (s ∷ other) p q x y =
      let same = once text r s p.0 q.0 p.1 q.1 in
      let ih = all-one_until once p.0 one other p.2 (rw (← same.1) at q.2) x y in
      (cc, ih.1)

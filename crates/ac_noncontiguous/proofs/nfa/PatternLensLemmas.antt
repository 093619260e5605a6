-- The lengths of patterns, one after another.
use Rattle.std.proofs.Common.{◌≡◌, ℕ, max, List, [], ◌∷◌, ◌++◌, length, arith}
use Rattle.std.proofs.lemmas.List.{map-append}
use Rattle.ac_input.specs.Work.{longest}
use Rattle.std.specs.Prelude.{map}

-- the longest of some patterns and one more
pub longest-more : (ps : List (List ℕ)) (p : List ℕ) → longest (ps ++ p ∷ []) ≡ max (longest ps) (length p)
longest-more [] p = omega arith
longest-more (q ∷ ps) p = let so = longest-more ps p in omega (arith, so)

-- the lengths of some patterns and one more
pub lens-more : (ps : List (List ℕ)) (p : List ℕ)
    → map (λ p′. length p′) (ps ++ p ∷ []) ≡ map (λ p. length p) ps ++ length p ∷ []
lens-more ps p = map-append (λ (q : List ℕ). length q) ps (p ∷ [])

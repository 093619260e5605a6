-- The ranges of the states, each stored once.
use Rattle.std.proofs.Common.{◌≡◌, ℕ, zero, suc, ◌+◌, ◌<◌, List, [], ◌∷◌, ◌++◌, length, map, refl, ap, ap₂, subst, ◌∙◌, arith, get_or, slice_index, slice_index_or, replicate}
use Rattle.std.proofs.lemmas.List.{get_or_append_left, get_or-append-add}
use Rattle.ac_noncontiguous.specs.declared.links.Range.{Range}
use Rattle.ac_noncontiguous.specs.declared.links.ranges.Ranges.{Ranges}
use Rattle.ac_noncontiguous.specs.Links.{no_range, by_state}
use Rattle.ac_noncontiguous.specs.Links.Stored.{range_at}

-- functions that agree on the elements of a list map it alike
map-alike : (f g : ℕ → Range) (xs : List ℕ)
    → ((i : ℕ) → i < length xs → f (slice_index xs i) ≡ g (slice_index xs i)) → map f xs ≡ map g xs
map-alike f g [] same = refl
map-alike f g (x ∷ xs) same =
    ap₂ (λ y ys. y ∷ ys) (same 0 (omega arith)) (map-alike f g xs (λ i within. same (suc i) (omega arith)))

-- at first each state has the first range
pub ranges-empty : (states : ℕ) {at : List ℕ} {each : List Range} → at ≡ replicate states 0
    → each ≡ replicate 1 no_range → map (λ number. slice_index_or each number no_range) at ≡ replicate states no_range
ranges-empty states zeros one =
    ap₂ (λ each at. map (λ number. slice_index_or each number no_range) at) one zeros ∙ firsts states
  where
    firsts : (n : ℕ)
        → map (λ number. slice_index_or (replicate 1 no_range) number no_range) (replicate n 0) ≡ replicate n no_range
    firsts zero = refl
    firsts (suc n) = ap (λ rest. no_range ∷ rest) (firsts n)

-- one more range changes none
pub ranges-added : (old : Ranges) (range : Range) {each : List Range} → each ≡ old.each.items ++ range ∷ []
    → map (λ number. slice_index_or each number no_range) old.at.items ≡ by_state old
ranges-added old range added =
    ap (λ each. map (λ number. slice_index_or each number no_range) old.at.items) added
    ∙ map-alike (λ number. slice_index_or (old.each.items ++ range ∷ []) number no_range) (range_at old) old.at.items
    (λ i within.
    get_or_append_left old.each.items (range ∷ []) no_range (slice_index old.at.items i) (old.within i within))

-- it has the last number
pub ranges-last : (old : Ranges) (range : Range) {each : List Range} {number : ℕ}
    → each ≡ old.each.items ++ range ∷ [] → number ≡ length old.each.items
    → slice_index_or each number no_range ≡ range
ranges-last old range {number} added last =
    let e : length old.each.items + 0 ≡ number = omega arith in
    ap (λ each. slice_index_or each number no_range) added
    ∙ subst (λ n. get_or (old.each.items ++ range ∷ []) n no_range ≡ range) e
    (get_or-append-add old.each.items (range ∷ []) 0 no_range)

-- Lists in which no element stands twice are no longer than lists that have all their elements.
use Rattle.std.proofs.Common.{◌≡◌, ◌+◌, ◌≤◌, List, [], ◌∷◌, ◌++◌, length, sym, ap, subst, ◌∙◌, ⊎_elim, arith, length-append}
use Rattle.std.specs.List.{Contains}
use Rattle.std.proofs.lemmas.List.Elements.{Contains-append_left, Contains-append_right, Contains-append_cases}
use Rattle.ac_input.specs.Pairing.{IsDistinct}
use Rattle.ac_input.proofs.lemmas.ContainsLemmas.{Contains-nil, Contains-head, Contains-tail, Contains-cases}

-- a list is split at an element that stands in it
parts_of : {X : Type 0} (xs : List X) (y : X) → Contains xs y → (front back : List X) × (xs ≡ front ++ y ∷ back)
parts_of [] y c = absurd (Contains-nil c)
parts_of {X} (x ∷ xs) y c =
    let inner = parts_of xs y in
    ⊎_elim
    (λ (same : x ≡ y). ([], xs, ap (λ z. z ∷ xs) same))
    (λ later. let r = inner later in (x ∷ r.0, r.1, ap (λ zs. x ∷ zs) r.2))
    (Contains-cases xs c)

-- a list without repeats is no longer than a list that has all its elements
pub distinct-shorter : {X : Type 0} (xs ys : List X) → IsDistinct xs → ((x : X) → Contains xs x → Contains ys x)
    → length xs ≤ length ys
distinct-shorter [] ys d among = omega arith
distinct-shorter {X} (x ∷ xs) ys d among =
    let parts = parts_of ys x (among x (Contains-head xs)) in
    let rest = distinct-shorter xs (parts.0 ++ parts.1) d.1
    (λ z c. ⊎_elim
    (λ first. Contains-append_left parts.0 parts.1 z first)
    (λ second. ⊎_elim (λ (same : x ≡ z). absurd (d.0 (subst (λ y. Contains xs y) (sym same) c)))
    (λ later. Contains-append_right parts.0 parts.1 z later) (Contains-cases parts.1 second))
    (Contains-append_cases parts.0 (x ∷ parts.1) z
    (subst (λ zs. Contains zs z) parts.2 (among z (Contains-tail xs c))))) in
    let long = length-append parts.0 parts.1 in
    let whole : length ys ≡ length parts.0 + length (x ∷ parts.1) = ap length parts.2
    ∙ length-append parts.0 (x ∷ parts.1) in
    omega arith

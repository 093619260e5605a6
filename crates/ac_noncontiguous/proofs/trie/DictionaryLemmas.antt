-- A dictionary with one more pattern.
use Rattle.std.proofs.Common.{◌≡◌, ◌⊎◌, ℕ, zero, suc, ◌<◌, ◌≤◌, List, [], ◌∷◌, ◌++◌, length, take, map, Some, refl, sym, ap, ◌∙◌, inl, inr, ⊎_elim, arith, slice_get}
use Rattle.std.proofs.lemmas.List.{take-map}
use Rattle.std.proofs.lemmas.Option.{slice_get_within}
use Rattle.ac_input.specs.Dictionary.{Dictionary, IsPattern, Begins, IsShadowed, IsEntered}
use Rattle.ac_input.specs.Laws.LiveLaws.{canonical}
use Rattle.ac_input.proofs.lemmas.SameLemmas.{canonical-same_text, same_text-canonical}
use Rattle.ac_input.specs.Limits.{with_pattern}

-- ---- places of a list with one more element

-- the elements before the last one stay
pub get-kept : {X : Type 0} (xs : List X) (y : X) {x : X} (k : ℕ) → slice_get xs k ≡ Some x
    → slice_get (xs ++ y ∷ []) k ≡ Some x
get-kept [] y k e = cc
get-kept (z ∷ zs) y zero e = e
get-kept (z ∷ zs) y (suc k) e = get-kept zs y k e

-- the last element
pub get-last : {X : Type 0} (xs : List X) {y : X} → slice_get (xs ++ y ∷ []) (length xs) ≡ Some y
get-last [] = refl
get-last (z ∷ zs) = get-last zs

-- an element of the longer list was in the list before, or is the last one
pub get-cases : {X : Type 0} (xs : List X) {y x : X} (k : ℕ) → slice_get (xs ++ y ∷ []) k ≡ Some x
    → (slice_get xs k ≡ Some x) ⊎ ((k ≡ length xs) × (x ≡ y))
get-cases [] {y} {x} zero e = let same : y ≡ x = cc in inr (refl, sym same)
get-cases [] (suc k) e = cc
get-cases (z ∷ zs) zero e = inl e
get-cases (z ∷ zs) {y} {x} (suc k) e =
    ⊎_elim
    (λ (before : slice_get zs k ≡ Some x). inl before)
    (λ (last : (k ≡ length zs) × (x ≡ y)). inr (ap suc last.0, last.1))
    (get-cases zs k e)

-- ---- patterns

-- a pattern before the added one was in the dictionary
pub pattern-before : (m : Dictionary) (p : List ℕ) {n : ℕ} {q : List ℕ} → n < length m.patterns
    → IsPattern (with_pattern m p) n q → IsPattern m n q
pattern-before m p {n} {q} before h =
    ⊎_elim
    (λ (there : IsPattern m n q). there)
    (λ (last : (n ≡ length m.patterns) × (q ≡ p)). absurd (omega (arith, last.0)))
    (get-cases m.patterns n h)

-- a pattern that was shadowed stays shadowed when one more is added
pub shadowed-kept : (m : Dictionary) (p : List ℕ) {n : ℕ} {q : List ℕ} → IsShadowed m n q
    → IsShadowed (with_pattern m p) n q
shadowed-kept m p s = (s.0, s.1, s.2, get-kept m.patterns p s.0 s.3, s.4, s.5)

-- a pattern that is shadowed was shadowed before the last one was added
pub shadowed-before : (m : Dictionary) (p : List ℕ) {n : ℕ} {q : List ℕ} → n ≤ length m.patterns
    → IsShadowed (with_pattern m p) n q → IsShadowed m n q
shadowed-before m p before s = (s.0, s.1, s.2, pattern-before m p (omega (arith, s.2)) s.3, s.4, s.5)

-- a pattern that was entered stays entered when one more is added
pub entered-kept : (m : Dictionary) (p : List ℕ) {n : ℕ} {q : List ℕ} → IsEntered m n q
    → IsEntered (with_pattern m p) n q
entered-kept m p {n} {q} e =
    let within : n < length m.patterns = slice_get_within m.patterns n q e.0 in
    (get-kept m.patterns p n e.0, λ first s. e.1 first (shadowed-before m p (omega arith) s))

-- a pattern before the added one that is entered was entered before
pub entered-before : (m : Dictionary) (p : List ℕ) {n : ℕ} {q : List ℕ} → n < length m.patterns
    → IsEntered (with_pattern m p) n q → IsEntered m n q
entered-before m p before e = (pattern-before m p before e.0, λ first s. e.1 first (shadowed-kept m p s))

-- ---- canonical bytes

-- a prefix of a text, up to pairing, is a prefix of it in canonical bytes
pub begins-canonical : (pairing front whole : List ℕ) → Begins pairing front whole
    → map (canonical pairing) front ≡ take (length front) (map (canonical pairing) whole)
begins-canonical pairing front whole h =
    canonical-same_text pairing front (take (length front) whole) h.1
    ∙ sym (take-map (canonical pairing) (length front) whole)

-- a prefix of a text in canonical bytes is a prefix of it, up to pairing
pub canonical-begins : (pairing front whole : List ℕ) → length front ≤ length whole
    → map (canonical pairing) front ≡ take (length front) (map (canonical pairing) whole) → Begins pairing front whole
canonical-begins pairing front whole short e = (
  short,
  same_text-canonical pairing front (take (length front) whole)
      (e ∙ take-map (canonical pairing) (length front) whole),
)

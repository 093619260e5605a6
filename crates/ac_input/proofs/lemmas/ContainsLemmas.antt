-- What stands in a list.
use Rattle.std.proofs.Common.{◌≡◌, ◌⊎◌, ℕ, zero, suc, ◌<◌, Bool, true, false, cond, List, [], ◌∷◌, length, get_or, refl, sym, ap, ◌∙◌, subst, inl, inr, ⊎_elim, arith, true≢false}
use Rattle.std.specs.List.{Contains, filter}

-- nothing stands in the empty list
pub Contains-nil : {X : Type 0} {y : X} → ¬ Contains [] y
Contains-nil c = omega (arith, c.1)

-- the head stands in a list
pub Contains-head : {X : Type 0} {x : X} (xs : List X) → Contains (x ∷ xs) x
Contains-head xs = (0, omega arith, refl)

-- what stands in the tail stands in the list
pub Contains-tail : {X : Type 0} {x : X} (xs : List X) {y : X} → Contains xs y → Contains (x ∷ xs) y
Contains-tail xs c = (suc c.0, omega (arith, c.1), c.2)

-- what stands at a place of a list is its head or stands in its tail
cases_at : {X : Type 0} {x : X} (xs : List X) {y : X} (k : ℕ) → k < suc (length xs) → get_or (x ∷ xs) k y ≡ y
    → (x ≡ y) ⊎ Contains xs y
cases_at xs zero h e = inl e
cases_at xs (suc k) h e = inr (k, omega arith, e)

-- what stands in a list is its head or stands in its tail
pub Contains-cases : {X : Type 0} {x : X} (xs : List X) {y : X} → Contains (x ∷ xs) y → (x ≡ y) ⊎ Contains xs y
Contains-cases xs c = cases_at xs c.0 c.1 c.2

-- where the test passes, one step of a filter keeps the head
pub head_kept : {X : Type 0} (b : Bool) {x : X} (fs : List X) → b ≡ true → Contains (cond b (x ∷ fs) fs) x
head_kept true fs e = Contains-head fs
head_kept false fs e = absurd (true≢false (sym e))

-- one step of a filter keeps what was kept of the tail
pub tail_kept : {X : Type 0} (b : Bool) (x : X) (fs : List X) {y : X} → Contains fs y → Contains (cond b (x ∷ fs) fs) y
tail_kept true x fs c = Contains-tail fs c
tail_kept false x fs c = c

-- what one step of a filter keeps is the head, which passes the test, or was kept of the tail
pub kept_cases : {X : Type 0} (b : Bool) {x : X} (fs : List X) {y : X} → Contains (cond b (x ∷ fs) fs) y
    → ((b ≡ true) × (x ≡ y)) ⊎ Contains fs y
kept_cases true fs c = ⊎_elim (λ same. inl (refl, same)) inr (Contains-cases fs c)
kept_cases false fs c = inr c

-- a filter keeps what passes its test
pub Contains-filter : {X : Type 0} (p : X → Bool) (xs : List X) {y : X} → Contains xs y → p y ≡ true
    → Contains (filter p xs) y
Contains-filter p [] c e = c
Contains-filter {X} p (x ∷ xs) {y} c e =
    let kept = Contains-filter p xs in
    ⊎_elim
    (λ (same : x ≡ y). subst (λ z. Contains (filter p (x ∷ xs)) z) same (head_kept (p x) (filter p xs) (ap p same ∙ e)))
    (λ later. tail_kept (p x) x (filter p xs) (kept later e))
    (Contains-cases xs c)

-- what a filter keeps stands in the list and passes the test
pub Contains-from_filter : {X : Type 0} (p : X → Bool) (xs : List X) {y : X} → Contains (filter p xs) y
    → Contains xs y × (p y ≡ true)
Contains-from_filter p [] c = absurd (Contains-nil c)
Contains-from_filter {X} p (x ∷ xs) c =
    let kept = Contains-from_filter p xs in
    ⊎_elim
    (λ here. (subst (λ z. Contains (x ∷ xs) z) here.1 (Contains-head xs), sym (ap p here.1) ∙ here.0))
    (λ later. (Contains-tail xs (kept later).0, (kept later).1))
    (kept_cases (p x) (filter p xs) c)

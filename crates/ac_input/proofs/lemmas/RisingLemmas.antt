-- Lists that rise by end, start and number.
use Rattle.std.proofs.Common.{◌≡◌, ◌⊎◌, ◌↔◌, ◌<◌, Bool, true, false, cond, List, [], ◌∷◌, ◌++◌, refl, sym, ap₂, ◌∙◌, subst, inl, inr, ⊎_elim, Ordering, Less, Equal, Greater}
use Rattle.std.specs.List.{Contains, filter}
use Rattle.std.specs.Cmp.{nat_cmp_is}
use Rattle.std.proofs.lemmas.List.Elements.{Contains-append_cases}
use Rattle.ac_input.specs.declared.search.MatchKind.TheVariants.{Standard}
use Rattle.ac_input.specs.Occurrence.{Occurrence}
use Rattle.ac_input.specs.Best.{preference}
use Rattle.ac_input.specs.Listing.{IsRising}
use Rattle.ac_input.proofs.lemmas.ContainsLemmas.{Contains-nil, Contains-head, Contains-tail, Contains-cases, Contains-from_filter}
use Rattle.ac_input.proofs.lemmas.OrderLemmas.{preference-equal_itself, preference-greater, preference-less_transitive, standard-equal}

-- no occurrence is before itself
pub less_itself : (a : Occurrence) → preference Standard a a ≡ Less → ⊥
less_itself a h = let e = preference-equal_itself Standard a in cc

-- of two occurrences at most one is before the other
pub less_flip : (a b : Occurrence) → preference Standard a b ≡ Less → preference Standard b a ≡ Less → ⊥
less_flip a b h k = less_itself a (preference-less_transitive Standard a b a h k)

-- of two occurrences one is before the other or they are equal, by the result of the comparison
order_cases : (a b : Occurrence) (r : Ordering) → preference Standard a b ≡ r
    → (preference Standard a b ≡ Less) ⊎ ((a ≡ b) ⊎ (preference Standard b a ≡ Less))
order_cases a b Less e = inl e
order_cases a b Equal e = inr (inl (standard-equal e))
order_cases a b Greater e = inr (inr (preference-greater Standard a b e))

-- of two occurrences one is before the other, or they are equal
pub less_or_same : (a b : Occurrence) → (preference Standard a b ≡ Less) ⊎ ((a ≡ b) ⊎ (preference Standard b a ≡ Less))
less_or_same a b = order_cases a b (preference Standard a b) refl

-- the occurrence with the earlier end is before the other
pub less_by_end : (a b : Occurrence) → a.end < b.end → preference Standard a b ≡ Less
less_by_end a b h = let e = nat_cmp_is a.end b.end Less h in rw (← e)

-- of two occurrences with one end, the earlier start is before
pub less_by_start : (a b : Occurrence) → a.end ≡ b.end → a.start < b.start → preference Standard a b ≡ Less
less_by_start a b same h =
    let e = nat_cmp_is a.end b.end Equal same in
    let s = nat_cmp_is a.start b.start Less h in
    rw (← e, ← s)

-- of two occurrences with one end and start, the lower number is before
pub less_by_number : {a : Occurrence} (b : Occurrence) → a.end ≡ b.end → a.start ≡ b.start → a.pattern < b.pattern
    → preference Standard a b ≡ Less
less_by_number {a} b same starts h =
    let e = nat_cmp_is a.end b.end Equal same in
    let s = nat_cmp_is a.start b.start Equal starts in
    let n = nat_cmp_is a.pattern b.pattern Less h in
    rw (← e, ← s, ← n)

-- each element stands in a relation to every later one
abbrev pub IsPairwise : {X : Type 0} → (X → X → Type 0) → List X → Type 0
IsPairwise R [] = Unit {0}
IsPairwise {X} R (x ∷ xs) = ((y : X) → Contains xs y → R x y) × IsPairwise R xs

-- one step of a filter keeps that each element stands in a relation to every later one
pub pairwise_cond : {X : Type 0} (R : X → X → Type 0) (b : Bool) {x : X} (fs : List X)
    → ((y : X) → Contains fs y → R x y) → IsPairwise R fs → IsPairwise R (cond b (x ∷ fs) fs)
pairwise_cond R true fs later h = (later, h)
pairwise_cond R false fs later h = h

-- a filter keeps that each element stands in a relation to every later one
pub IsPairwise-filter : {X : Type 0} (R : X → X → Type 0) (p : X → Bool) (xs : List X) → IsPairwise R xs
    → IsPairwise R (filter p xs)
IsPairwise-filter R p [] h = tt
IsPairwise-filter R p (x ∷ xs) h =
    pairwise_cond R (p x) (filter p xs) (λ y c. h.0 y (Contains-from_filter p xs c).0) (IsPairwise-filter R p xs h.1)

-- two lists stay related when appended, if each element of the first is related to each of the second
pub IsPairwise-append : {X : Type 0} {R : X → X → Type 0} (xs ys : List X) → IsPairwise R xs → IsPairwise R ys
    → ((x y : X) → Contains xs x → Contains ys y → R x y) → IsPairwise R (xs ++ ys)
IsPairwise-append [] ys h k across = k
IsPairwise-append (x ∷ xs) ys h k across = (
  λ y c. ⊎_elim (h.0 y) (across x y (Contains-head xs)) (Contains-append_cases xs ys y c),
  IsPairwise-append xs ys h.1 k (λ a b c d. across a b (Contains-tail xs c) d),
)

-- elements that stand in a relation stand in a weaker one
pub IsPairwise-weaker : {X : Type 0} {R S : X → X → Type 0} (xs : List X)
    → ((x y : X) → Contains xs x → Contains xs y → R x y → S x y) → IsPairwise R xs → IsPairwise S xs
IsPairwise-weaker [] weaker h = tt
IsPairwise-weaker (x ∷ xs) weaker h = (
  λ y c. weaker x y (Contains-head xs) (Contains-tail xs c) (h.0 y c),
  IsPairwise-weaker xs (λ a b c d. weaker a b (Contains-tail xs c) (Contains-tail xs d)) h.1,
)

-- one occurrence is before another in the listing
abbrev pub IsBefore : Occurrence → Occurrence → Type 0
IsBefore a b = preference Standard a b ≡ Less

-- the tail of a rising list rises
pub IsRising-tail : (o : Occurrence) (os : List Occurrence) → IsRising (o ∷ os) → IsRising os
IsRising-tail o [] h = tt
IsRising-tail o (q ∷ os) h = h.1

-- the head of a rising list is before every later element
pub IsRising-head : (o : Occurrence) (os : List Occurrence) → IsRising (o ∷ os) → {later : Occurrence}
    → Contains os later → IsBefore o later
IsRising-head o [] h c = absurd (Contains-nil c)
IsRising-head o (q ∷ os) h {later} c =
    let beyond = IsRising-head q os h.1 in
    ⊎_elim
    (λ (same : q ≡ later). subst (λ z. IsBefore o z) same h.0)
    (λ behind. preference-less_transitive Standard o q later h.0 (beyond behind))
    (Contains-cases os c)

-- a rising list with an element before all of it put in front rises
pub IsRising-cons : (o : Occurrence) (os : List Occurrence)
    → ((later : Occurrence) → Contains os later → IsBefore o later) → IsRising os → IsRising (o ∷ os)
IsRising-cons o [] before h = tt
IsRising-cons o (q ∷ os) before h = (before q (Contains-head os), h)

-- in a rising list each element is before every later one
pub pairwise_from_IsRising : (os : List Occurrence) → IsRising os → IsPairwise IsBefore os
pairwise_from_IsRising [] h = tt
pairwise_from_IsRising (o ∷ os) h = ((λ _. IsRising-head o os h), pairwise_from_IsRising os (IsRising-tail o os h))

-- a list in which each element is before every later one rises
pub IsRising-from_pairwise : (os : List Occurrence) → IsPairwise IsBefore os → IsRising os
IsRising-from_pairwise [] h = tt
IsRising-from_pairwise (o ∷ os) h = IsRising-cons o os h.0 (IsRising-from_pairwise os h.1)

-- the head of a rising list does not stand in it again
pub IsRising-once : (o : Occurrence) (os : List Occurrence) → IsRising (o ∷ os) → ¬ Contains os o
IsRising-once o os h c = less_itself o (IsRising-head o os h c)

-- a filter of a rising list rises
pub IsRising-filter : (p : Occurrence → Bool) (os : List Occurrence) → IsRising os → IsRising (filter p os)
IsRising-filter p os h = IsRising-from_pairwise _ (IsPairwise-filter IsBefore p os (pairwise_from_IsRising os h))

-- two rising lists appended rise, if each element of the first is before each of the second
pub IsRising-append : (xs ys : List Occurrence) → IsRising xs → IsRising ys
    → ((a b : Occurrence) → Contains xs a → Contains ys b → IsBefore a b) → IsRising (xs ++ ys)
IsRising-append xs ys h k across =
    IsRising-from_pairwise _
    (IsPairwise-append xs ys (pairwise_from_IsRising xs h) (pairwise_from_IsRising ys k) across)

-- two rising lists whose heads stand in each other have equal heads
heads_same : (a b : Occurrence) (xs ys : List Occurrence) → IsRising (a ∷ xs) → IsRising (b ∷ ys) → Contains (b ∷ ys) a
    → Contains (a ∷ xs) b → a ≡ b
heads_same a b xs ys h k a_in b_in =
    ⊎_elim
    (λ (same : b ≡ a). sym same)
    (λ a_later. ⊎_elim
    (λ (same : a ≡ b). same)
    (λ b_later. absurd (less_flip a b (IsRising-head a xs h b_later) (IsRising-head b ys k a_later)))
    (Contains-cases xs b_in))
    (Contains-cases ys a_in)

-- where two heads are equal, what stands in the first tail stands in the second
tail_among : {a b : Occurrence} (xs ys : List Occurrence) → a ≡ b → IsRising (a ∷ xs) → {o : Occurrence}
    → (Contains (a ∷ xs) o → Contains (b ∷ ys) o) → Contains xs o → Contains ys o
tail_among {a} {b} xs ys same h {o} among c =
    ⊎_elim
    (λ (here : b ≡ o). absurd (less_itself o (subst (λ z. IsBefore z o) (same ∙ here) (IsRising-head a xs h c))))
    (λ later. later)
    (Contains-cases ys (among (Contains-tail xs c)))

-- two rising lists with the same elements are equal
pub IsRising-unique : (xs ys : List Occurrence) → IsRising xs → IsRising ys
    → ((o : Occurrence) → Contains xs o ↔ Contains ys o) → xs ≡ ys
IsRising-unique [] [] h k same = refl
IsRising-unique [] (b ∷ ys) h k same = absurd (Contains-nil ((same b).1 (Contains-head ys)))
IsRising-unique (a ∷ xs) [] h k same = absurd (Contains-nil ((same a).0 (Contains-head xs)))
IsRising-unique (a ∷ xs) (b ∷ ys) h k same =
    let heads = heads_same a b xs ys h k ((same a).0 (Contains-head xs)) ((same b).1 (Contains-head ys)) in
    let tails = IsRising-unique xs ys (IsRising-tail a xs h) (IsRising-tail b ys k)
    (λ o. (tail_among xs ys heads h (same o).0, tail_among ys xs (sym heads) k (same o).1)) in
    ap₂ ◌∷◌ heads tails

-- The overlapping listing: that it is unique, and how it is computed.
use Rattle.std.proofs.Common.{◌≡◌, ◌≢◌, ◌⊎◌, ◌↔◌, ℕ, zero, suc, ◌+◌, ◌-◌, ◌<◌, ◌≤◌, eqb, eqb-true, eq-eqb, true, Option, Some, None, List, [], ◌∷◌, length, refl, sym, ap, ◌∙◌, subst, inl, inr, ⊎_elim, arith, Ordering, Less, Greater}
use Rattle.std.proofs.lemmas.Bool.{cond_both, cases_eq}
use Rattle.std.specs.List.{Contains, filter}
use Rattle.std.proofs.lemmas.List.Elements.{Contains-append_left, Contains-append_right, Contains-append_cases}
use Rattle.ac_input.specs.declared.search.MatchKind.TheVariants.{Standard}
use Rattle.ac_input.specs.Occurrence.{Search, Occurrence, Occurs}
use Rattle.ac_input.specs.Best.{preference, IsAfter, IsLeast}
use Rattle.ac_input.specs.Listing.{IsRising, ListsAll, IsListing}
use Rattle.ac_input.specs.Computed.{at_place, from_place, occurrences, to_place, listing_among, listing_of, is_less, is_after, listing_after}
use Rattle.ac_input.proofs.lemmas.ContainsLemmas.{Contains-nil, Contains-head, Contains-tail, Contains-cases, Contains-filter, Contains-from_filter, kept_cases}
use Rattle.ac_input.proofs.lemmas.OrderLemmas.{preference-less, preference-less_transitive}
use Rattle.ac_input.proofs.lemmas.RisingLemmas.{IsBefore, less_by_end, less_by_start, less_by_number, less_or_same, pairwise_cond, IsPairwise, IsPairwise-filter, IsPairwise-append, IsPairwise-weaker, IsRising-cons, IsRising-from_pairwise, IsRising-filter, IsRising-append, IsRising-unique}
use Rattle.ac_input.proofs.lemmas.BestLemmas.{occurrences-all, less_from_test}

-- the occurrences of a fact have only one list
pub ListsAll-unique : {P : Occurrence → Type 0} {xs ys : List Occurrence} → ListsAll P xs → ListsAll P ys → xs ≡ ys
ListsAll-unique {xs} {ys} h k =
    IsRising-unique xs ys h.0 k.0 (λ o. (λ c. (k.1 o).1 ((h.1 o).0 c), λ c. (h.1 o).1 ((k.1 o).0 c)))

-- a search has only one overlapping listing
pub listing-unique : (s : Search) (xs ys : List Occurrence) → IsListing s xs → IsListing s ys → xs ≡ ys
listing-unique s xs ys h k = ListsAll-unique h k

-- one occurrence is earlier by start, or at one start by number, as in the computed occurrences
abbrev pub IsEarlier : Occurrence → Occurrence → Type 0
IsEarlier a b = (a.start < b.start) ⊎ ((a.start ≡ b.start) × (a.pattern < b.pattern))

-- occurrences at one place start there, and their numbers are at least the first number
at_place_within : (s : Search) {at : ℕ} (ps : List (List ℕ)) {n : ℕ} {o : Occurrence} → Contains (at_place s at ps n) o
    → (o.start ≡ at) × (n ≤ o.pattern)
at_place_within s [] c = absurd (Contains-nil c)
at_place_within s {at} (p ∷ ps) {n} c =
    let later = at_place_within s ps in
    ⊎_elim
    (λ here. (sym (ap (λ z. z.start) here.1), omega (arith, ap (λ z. z.pattern) here.1)))
    (λ inner. ((later inner).0, omega (arith, (later inner).1)))
    (kept_cases _ (at_place s at ps (n + 1)) c)

-- occurrences at one place are in the order of their numbers
at_place_pairwise : (s : Search) (at : ℕ) (ps : List (List ℕ)) (n : ℕ) → IsPairwise IsEarlier (at_place s at ps n)
at_place_pairwise s at [] n = tt
at_place_pairwise s at (p ∷ ps) n =
    pairwise_cond IsEarlier _ (at_place s at ps (n + 1))
    (λ o c. let later = at_place_within s ps c in inr (sym later.0, omega (arith, later.1)))
    (at_place_pairwise s at ps (n + 1))

-- occurrences from a place on start there or later
from_place_within : (s : Search) (at places : ℕ) {o : Occurrence} → Contains (from_place s at places) o → at ≤ o.start
from_place_within s at zero c = absurd (Contains-nil c)
from_place_within s at (suc places) {o} c =
    let later = from_place_within s (at + 1) places in
    ⊎_elim
    (λ here. omega (arith, (at_place_within s s.patterns here).0))
    (λ further. omega (arith, later further))
    (Contains-append_cases (at_place s at s.patterns 0) (from_place s (at + 1) places) o c)

-- occurrences from a place on are in the order of start and number
from_place_pairwise : (s : Search) (at places : ℕ) → IsPairwise IsEarlier (from_place s at places)
from_place_pairwise s at zero = tt
from_place_pairwise s at (suc places) =
    IsPairwise-append (at_place s at s.patterns 0) (from_place s (at + 1) places)
    (at_place_pairwise s at s.patterns 0)
    (from_place_pairwise s (at + 1) places)
    (λ a b here further.
    inl (omega (arith, (at_place_within s s.patterns here).0, from_place_within s (at + 1) places further)))

-- the computed occurrences are in the order of start and number, each once
pub occurrences-pairwise : (s : Search) → IsPairwise IsEarlier (occurrences s)
occurrences-pairwise s =
    cond_both s.anchored _ _ (IsPairwise IsEarlier) (λ _. from_place_pairwise s s.start _)
    (λ _. from_place_pairwise s s.start _)

-- of occurrences with one end, the earlier by start and number is the earlier in the listing
before_at_end : {a b : Occurrence} {at : ℕ} → a.end ≡ at → b.end ≡ at → IsEarlier a b → IsBefore a b
before_at_end {a} {b} a_end b_end earlier =
    ⊎_elim
    (λ starts. less_by_start a b (a_end ∙ sym b_end) starts)
    (λ numbers. less_by_number b (a_end ∙ sym b_end) numbers.0 numbers.1)
    earlier

-- those of some occurrences that end at one place rise in the order of the listing
ending_rising : (os : List Occurrence) (at : ℕ) → IsPairwise IsEarlier os → IsRising (filter (λ o. eqb o.end at) os)
ending_rising os at ordered =
    let ends_at = λ (o : Occurrence). eqb o.end at in
    IsRising-from_pairwise _ (IsPairwise-weaker (filter ends_at os)
    (λ a b a_in b_in earlier. before_at_end
    (eqb-true a.end at (Contains-from_filter ends_at os a_in).1)
    (eqb-true b.end at (Contains-from_filter ends_at os b_in).1)
    earlier)
    (IsPairwise-filter IsEarlier ends_at os ordered))

-- the list by ends has exactly the occurrences that count and end at one of its places
to_place-contains : (all : Search → List Occurrence) (s : Search) {at : ℕ} (places : ℕ) {o : Occurrence}
    → Contains (to_place all s at places) o ↔ (Contains (all s) o × (at ≤ o.end) × (o.end < at + places))
to_place-contains all s zero = (λ c. absurd (Contains-nil c), λ h. absurd (omega (arith, h.1, h.2)))
to_place-contains all s {at} (suc places) {o} =
    let ends_at = λ (q : Occurrence). eqb q.end at in
    let here = filter ends_at (all s) in
    let further = to_place all s (at + 1) places in
    let later = to_place-contains all s {at = at + 1} places in (
      λ c. ⊎_elim
          (λ (first : Contains here o).
          let kept = Contains-from_filter ends_at (all s) first in
          let e = eqb-true o.end at kept.1 in
          (kept.0, omega arith, omega arith))
          (λ (second : Contains further o). let known = later.0 second in
          (known.0, omega (arith, known.1), omega (arith, known.2)))
          (Contains-append_cases here further o c),
      λ h. ⊎_elim
          (λ (e : o.end ≡ at). Contains-append_left here further o
          (Contains-filter ends_at (all s) h.0 (eq-eqb o.end at e)))
          (λ (ne : o.end ≡ at → ⊥). Contains-append_right here further o
          (later.1 (h.0, omega (arith, h.1), omega (arith, h.2))))
          (cases_eq o.end at),
    )

-- occurrences in the list by ends rise
to_place_rising : (all : Search → List Occurrence) (s : Search) (at places : ℕ) → IsPairwise IsEarlier (all s)
    → IsRising (to_place all s at places)
to_place_rising all s at zero ordered = tt
to_place_rising all s at (suc places) ordered =
    let ends_at = λ (q : Occurrence). eqb q.end at in
    IsRising-append (filter ends_at (all s)) (to_place all s (at + 1) places)
    (ending_rising (all s) at ordered)
    (to_place_rising all s (at + 1) places ordered)
    (λ a b here further.
    let a_end = eqb-true a.end at (Contains-from_filter ends_at (all s) here).1 in
    let b_end = (to_place-contains all s places).0 further in
    less_by_end a b (omega (arith, b_end.1)))

-- the listing of what counts lists a fact, if just the occurrences of which it holds count, and all end in the span
pub listing_among-lists : {P : Occurrence → Type 0} (all : Search → List Occurrence) (s : Search)
    → IsPairwise IsEarlier (all s) → ((o : Occurrence) → Contains (all s) o ↔ P o)
    → ((o : Occurrence) → P o → (s.start ≤ o.end) × (o.end ≤ s.end)) → ListsAll P (listing_among all s)
listing_among-lists all s ordered has within = (
  to_place_rising all s s.start (s.end + 1 - s.start) ordered,
  λ o.
      let placed = to_place-contains all s (s.end + 1 - s.start) in (
        λ c. (has o).0 (placed.0 c).0,
        λ p. placed.1 ((has o).1 p, omega (arith, within o p), omega (arith, within o p)),
      ),
)

-- the computed listing is the overlapping listing
pub listing_of-lists : {s : Search} → s.end ≤ length s.haystack → IsListing s (listing_of s)
listing_of-lists {s} fits =
    listing_among-lists occurrences s (occurrences-pairwise s) (λ o. occurrences-all s o fits)
    (λ o occurs. (omega (arith, occurs.within), omega (arith, occurs.within)))

-- each overlapping listing is the computed one
pub listing-computed : {s : Search} {os : List Occurrence} → s.end ≤ length s.haystack → IsListing s os
    → os ≡ listing_of s
listing-computed {s} {os} fits h = listing-unique s os (listing_of s) h (listing_of-lists fits)

-- with no occurrence before, the filter keeps all
filter_all : (os : List Occurrence) → filter (is_after None) os ≡ os
filter_all [] = refl
filter_all (o ∷ os) = ap (λ rest. o ∷ rest) (filter_all os)

-- the test of less passes where the result is less
is_less-true : {r : Ordering} → r ≡ Less → is_less r ≡ true
is_less-true e = ap is_less e

-- the computed listing is the one overlapping listing
pub listing-computed_iff : (s : Search) (os : List Occurrence) → s.end ≤ length s.haystack
    → IsListing s os ↔ (os ≡ listing_of s)
listing-computed_iff s os fits = (listing-computed fits, λ same. subst (IsListing s) (sym same) (listing_of-lists fits))

-- the test for coming after an occurrence decides the relation
pub is_after-decides : (before : Option Occurrence) (o : Occurrence) → (is_after before o ≡ true) ↔ IsAfter before o
is_after-decides None o = (λ _. tt, λ _. refl)
is_after-decides (Some before) o = (less_from_test (preference Standard before o), is_less-true)

-- coming after is transitive
pub IsAfter-trans : (before : Option Occurrence) (o later : Occurrence) → IsAfter before o → IsBefore o later
    → IsAfter before later
IsAfter-trans None o later h k = tt
IsAfter-trans (Some before) o later h k = preference-less_transitive Standard before o later h k

-- the part of the listing after an occurrence lists all that is after it
pub listing_after-lists : {s : Search} (before : Option Occurrence) → s.end ≤ length s.haystack
    → ListsAll (λ o. Occurs s o × IsAfter before o) (listing_after s before)
listing_after-lists {s} before fits =
    let whole = listing_of-lists fits in (
      IsRising-filter (is_after before) (listing_of s) whole.0,
      λ o. (
        λ c.
            let kept = Contains-from_filter (is_after before) (listing_of s) c in
            ((whole.1 o).0 kept.0, (is_after-decides before o).0 kept.1),
        λ h. Contains-filter (is_after before) (listing_of s) ((whole.1 o).1 h.0) ((is_after-decides before o).1 h.1),
      ),
    )

-- with no occurrence before, what is left is the whole listing
pub listing_after-start : (s : Search) → listing_after s None ≡ listing_of s
listing_after-start s = filter_all (listing_of s)

-- where nothing is next, nothing is left of the listing
pub listing_after-none : (s : Search) (before : Option Occurrence) → s.end ≤ length s.haystack
    → IsLeast Standard (λ o. Occurs s o × IsAfter before o) None → listing_after s before ≡ []
listing_after-none s before fits next =
    ListsAll-unique (listing_after-lists before fits) (tt, λ o. (λ c. absurd (Contains-nil c), λ h. absurd (next o h)))

-- an occurrence that isn't greater than another one equals it or comes before it
not_greater : (a b : Occurrence) → preference Standard a b ≢ Greater → (a ≡ b) ⊎ IsBefore a b
not_greater a b h =
    ⊎_elim
    (λ less. inr less)
    (λ rest. ⊎_elim inl (λ greater. absurd (h (preference-less Standard b a greater))) rest)
    (less_or_same a b)

-- the next one is the head of what is left of the listing
pub listing_after-some : (s : Search) (before : Option Occurrence) (o : Occurrence) → s.end ≤ length s.haystack
    → IsLeast Standard (λ o′. Occurs s o′ × IsAfter before o′) (Some o)
    → listing_after s before ≡ o ∷ listing_after s (Some o)
listing_after-some s before o fits next =
    let rest = listing_after-lists (Some o) fits in
    ListsAll-unique
    (listing_after-lists before fits) (
      IsRising-cons o (listing_after s (Some o)) (λ later c. ((rest.1 later).0 c).1) rest.0,
      λ q. (
        λ c. ⊎_elim
            (λ (same : o ≡ q). subst (λ z. Occurs s z × IsAfter before z) same next.0)
            (λ later. let known = (rest.1 q).0 later in (known.0, IsAfter-trans before o q next.0.1 known.1))
            (Contains-cases (listing_after s (Some o)) c),
        λ h. ⊎_elim
            (λ (same : o ≡ q). subst (λ z. Contains (o ∷ listing_after s (Some o)) z) same
            (Contains-head (listing_after s (Some o))))
            (λ less. Contains-tail (listing_after s (Some o)) ((rest.1 q).1 (h.0, less)))
            (not_greater o q (next.1 q h)),
      ),
    )

-- The order of patterns at one place.
use Rattle.std.proofs.Common.{◌≡◌, ◌≢◌, ℕ, ◌+◌, ◌-◌, ◌<◌, ◌≤◌, inl, inr, List, length, get_or, true, false, Ordering, Less, Equal, Greater, refl, sym, ap, ◌∙◌, arith}
use Rattle.std.specs.List.{insert}
use Rattle.std.specs.Ordering.{is_lt}
use Rattle.std.proofs.lemmas.Bool.{cases_lt, cases_eq, false≢true}
use Rattle.std.proofs.lemmas.List.Edits.{length-insert, get_or-insert_at, get_or-insert_below, get_or-insert_above}
use Rattle.ac_input.specs.Best.{preference}
use Rattle.ac_input.proofs.lemmas.OrderLemmas.{preference-transitive, preference-not_less, less-not_greater}
use Rattle.ac_literal.specs.declared.packed.api.MatchKind.{MatchKind}
use Rattle.ac_literal.specs.Packed.{search_kind}
use Rattle.ac_literal.specs.Packed.RabinKarp.{lying, IsNoLater, IsOrder, IsPlace}

-- being no later is transitive
pub no_later-transitive : (kind : MatchKind) (patterns : List (List ℕ)) (a b c : ℕ) → IsNoLater kind patterns a b
    → IsNoLater kind patterns b c → IsNoLater kind patterns a c
no_later-transitive kind patterns a b c g h =
    λ at. preference-transitive (search_kind kind) (lying patterns at a) (lying patterns at b) (lying patterns at c)
    (g at) (h at)

module _ (kind : MatchKind) (patterns : List (List ℕ)) (count : ℕ) (order : List ℕ) (place : ℕ)
    (is : IsOrder kind patterns count order) (there : IsPlace kind patterns order count place) where
  -- the order with the next number at its place
  abbrev more : List ℕ
  more = insert order place count

  within : place ≤ length order
  within = there.within

  at : get_or more place 0 ≡ count
  at = get_or-insert_at order place count 0 within

  below : {i : ℕ} → i < place → get_or more i 0 ≡ get_or order i 0
  below {i} h = get_or-insert_below order place count 0 i h within

  above : {i : ℕ} → place ≤ i → get_or more (i + 1) 0 ≡ get_or order i 0
  above {i} h = get_or-insert_above order place count 0 i h within

  -- the numbers after the place moved on by one
  behind : (i : ℕ) → place < i → get_or more i 0 ≡ get_or order (i - 1) 0
  behind i h =
      let e : i - 1 + 1 ≡ i = omega arith in
      ap (λ k. get_or more k 0) (sym e) ∙ above (omega arith)

  -- each number in the new order is below the new count
  pub more-below : (i : ℕ) → i < count + 1 → get_or more i 0 < count + 1
  more-below i h = elim (cases_lt i place) [
    | inl low ↦ let e = below low in let b = is.below i (omega (arith, is.len)) in omega arith
    | inr up ↦ elim (cases_eq i place) [
      | inl same ↦ let e = ap (λ k. get_or more k 0) same ∙ at in omega arith
      | inr other ↦ let e = behind i (omega arith) in let b = is.below (i - 1) (omega arith) in omega arith
    ]
  ]

  -- each number below the new count stands in the new order
  pub more-all : (number : ℕ) → number < count + 1 → (i : ℕ) × (i < count + 1) × (get_or more i 0 ≡ number)
  more-all number h = elim (cases_lt number count) [
    | inl old ↦ let there = is.all number old in elim (cases_lt there.0 place) [
      | inl low ↦ (there.0, omega (arith, there.1), below low ∙ there.2)
      | inr up ↦ (there.0 + 1, omega (arith, there.1), above up ∙ there.2)
    ]
    | inr new ↦ (place, omega (arith, is.len), at ∙ omega arith)
  ]

  -- the new order is sorted
  pub more-sorted : (i j : ℕ) → i < j → j < count + 1 → IsNoLater kind patterns (get_or more j 0) (get_or more i 0)
  more-sorted i j h inside = elim (cases_lt j place) [
    | inl low ↦ rw (below low, below {i = i} (omega arith)) (is.sorted i j h (omega (arith, is.len)))
    | inr up ↦ elim (cases_eq j place) [
      | inl same ↦ rw (ap (λ k. get_or more k 0) same ∙ at, below {i = i} (omega arith)) (there.before i (omega arith))
      | inr other ↦ rw (behind j (omega arith)) (elim (cases_lt i place) [
        | inl low ↦ rw (below low) (is.sorted i (j - 1) (omega arith) (omega arith))
        | inr from ↦ elim (cases_eq i place) [
          | inl here ↦
              rw (ap (λ k. get_or more k 0) here ∙ at) (there.after (j - 1) (omega arith) (omega (arith, is.len)))
          | inr past ↦ rw (behind i (omega arith)) (is.sorted (i - 1) (j - 1) (omega arith) (omega arith))
        ]
      ])
    ]
  ]

  pub IsOrder-more : IsOrder kind patterns (count + 1) more
  IsOrder-more = record {
    len = length-insert order place count within ∙ ap (λ n. n + 1) is.len;
    below = more-below;
    all = more-all;
    sorted = more-sorted;
  }

-- a new number belongs where the first number that is preferred to it stands
pub place-found : {kind : MatchKind} {patterns : List (List ℕ)} {order : List ℕ} {number place : ℕ}
    → IsOrder kind patterns (length order) order → place < length order
    → ((i : ℕ) → i < place → IsNoLater kind patterns number (get_or order i 0))
    → ((at : ℕ) → preference (search_kind kind) (lying patterns at (get_or order place 0)) (lying patterns at number)
    ≡ Less)
    → IsPlace kind patterns order number place
place-found {kind} {patterns} {order} {number} {place} is inside before here =
    let first : IsNoLater kind patterns (get_or order place 0) number = λ at. less-not_greater (here at) in
    record {
      within = omega arith;
      before = before;
      after = λ i from h. elim (cases_eq i place) [
        | inl same ↦ rw (ap (λ k. get_or order k 0) same) first
        | inr past ↦
            no_later-transitive kind patterns (get_or order i 0) (get_or order place 0) number
            (is.sorted place i (omega arith) h) first
      ];
    }

-- a pattern is no later than one that is not preferred to it
pub no_later-from : (kind : MatchKind) (patterns : List (List ℕ)) (other number : ℕ)
    → ((at : ℕ) → preference (search_kind kind) (lying patterns at other) (lying patterns at number) ≢ Less)
    → IsNoLater kind patterns number other
no_later-from kind patterns other number h =
    λ at. preference-not_less (search_kind kind) (lying patterns at other) (lying patterns at number) (h at)

-- the test of `Less` passes only for `Less`
pub less-from_test : (r : Ordering) → is_lt r ≡ true → r ≡ Less
less-from_test Less e = refl
less-from_test Equal e = absurd (false≢true e)
less-from_test Greater e = absurd (false≢true e)

pub test-from_less : {r : Ordering} → is_lt r ≡ false → r ≡ Less → ⊥
test-from_less e less = false≢true (sym e ∙ ap is_lt less)

-- Which patterns are entered or own among the first n of a dictionary.
use Rattle.std.proofs.Common.{◌≡◌, ◌⊎◌, ◌↔◌, inl, inr, ⊎_elim, ℕ, zero, suc, ◌+◌, ◌<◌, ◌≤◌, map, List, [], ◌∷◌, ◌++◌, length, take, Some, slice_get, sym, ap, subst, refl, ◌∙◌, arith}
use Rattle.std.specs.List.{Contains}
use Rattle.std.proofs.lemmas.Bool.{cases_lt}
use Rattle.std.proofs.lemmas.List.{take_all, take-map}
use Rattle.std.proofs.lemmas.Option.{none-some}
use Rattle.ac_input.specs.Dictionary.{Dictionary, IsPattern, IsShadowed, IsEntered, Begins, BeginsEntered}
use Rattle.ac_input.specs.Laws.LiveLaws.{canonical}
use Rattle.ac_input.specs.Failure.{AreRising, IsOwn, AreOwn}
use Rattle.ac_input.specs.Limits.{first_patterns}
use Rattle.std.proofs.lemmas.List.Elements.{Contains-append_left, Contains-append_cases, Contains-push}
use Rattle.ac_input.proofs.lemmas.ContainsLemmas.{Contains-nil, Contains-head, Contains-tail, Contains-cases}
use Rattle.ac_input.proofs.lemmas.SameLemmas.{canonical-same_text, same_text-canonical}
use Rattle.ac_input.proofs.lemmas.LiveLemmas.{BeginsEntered-from}

-- ---- canonical bytes

-- a text begins a pattern exactly if its canonical bytes are the first canonical bytes of the pattern
pub begins-canonical : (pairing front p : List ℕ)
    → Begins pairing front p
    ↔ ((length front ≤ length p) × (map (canonical pairing) front ≡ take (length front) (map (canonical pairing) p)))
begins-canonical pairing front p =
    let n = length front in
    let part : take n (map (canonical pairing) p) ≡ map (canonical pairing) (take n p) =
    take-map (canonical pairing) n p in (
      λ h. (h.0, canonical-same_text pairing front (take n p) h.1 ∙ sym part),
      λ h. (h.0, same_text-canonical pairing front (take n p) (h.1 ∙ part)),
    )

-- ---- the first patterns

-- an element among the first n of a list is the same in the whole list
slice_get-take : {X : Type 0} (count n : ℕ) (xs : List X) → n < count → slice_get (take count xs) n ≡ slice_get xs n
slice_get-take zero n xs lt = absurd (omega arith)
slice_get-take (suc count) n [] lt = refl
slice_get-take (suc count) zero (x ∷ xs) lt = refl
slice_get-take (suc count) (suc n) (x ∷ xs) lt = slice_get-take count n xs (omega arith)

-- each place in the first n elements of a list is below n
take-within : {X : Type 0} (count n : ℕ) (xs : List X) (x : X) → slice_get (take count xs) n ≡ Some x → n < count
take-within zero n xs x is = absurd (none-some x is)
take-within (suc count) n [] x is = absurd (none-some x is)
take-within (suc count) zero (y ∷ xs) x is = omega arith
take-within (suc count) (suc n) (y ∷ xs) x is = let lt = take-within count n xs x is in omega arith

-- the patterns of the first n are those of the dictionary whose number is below n
pub pattern-first : (m : Dictionary) {count n : ℕ} {p : List ℕ}
    → IsPattern (first_patterns m count) n p ↔ ((n < count) × IsPattern m n p)
pattern-first m {count} {n} {p} = (
  λ is. let lt = take-within count n m.patterns p is in (lt, sym (slice_get-take count n m.patterns lt) ∙ is),
  λ h. slice_get-take count n m.patterns h.0 ∙ h.1,
)

-- a pattern of the first n is shadowed among them exactly if it is among all
shadowed-first : (m : Dictionary) {count n : ℕ} {p : List ℕ} → n < count
    → IsShadowed (first_patterns m count) n p ↔ IsShadowed m n p
shadowed-first m lt = (
  λ h. (h.0, h.1, h.2, ((pattern-first m).0 h.3).1, h.4, h.5),
  λ h. let less = h.2 in (h.0, h.1, h.2, (pattern-first m).1 (omega arith, h.3), h.4, h.5),
)

-- the patterns entered among the first n are those of the dictionary's entered ones whose number is below n
pub entered-first : (m : Dictionary) {count n : ℕ} {p : List ℕ}
    → IsEntered (first_patterns m count) n p ↔ ((n < count) × IsEntered m n p)
entered-first m = (
  λ h. let is = (pattern-first m).0 h.0 in (is.0, (is.1, λ first shadow. h.1 first ((shadowed-first m is.0).1 shadow))),
  λ h. ((pattern-first m).1 (h.0, h.1.0), λ first shadow. h.1.1 first ((shadowed-first m h.0).0 shadow)),
)

-- the own patterns of a text among the first n are those of its own patterns whose number is below n
pub own-first : (m : Dictionary) {count : ℕ} {text : List ℕ} {n : ℕ}
    → IsOwn (first_patterns m count) text n ↔ ((n < count) × IsOwn m text n)
own-first m = (
  λ h. let e = (entered-first m).0 h.1 in (e.0, (h.0, e.1, h.2)),
  λ h. (h.1.0, (entered-first m).1 (h.0, h.1.1), h.1.2),
)

-- one more pattern adds its own prefixes if it is entered, and no others
pub begins-next : (m : Dictionary) {count : ℕ} (text : List ℕ)
    → BeginsEntered (first_patterns m (count + 1)) text
    ↔ (BeginsEntered (first_patterns m count) text ⊎ ((p : List ℕ) × IsEntered m count p × Begins m.pairing text p))
begins-next m {count} text = (
  forth text,
  ⊎_elim (first text)
      (λ h. BeginsEntered-from (first_patterns m (count + 1)) text ((entered-first m).1 (omega arith, h.1)) h.2),
)
  where
    forth : (text : List ℕ) → BeginsEntered (first_patterns m (count + 1)) text
        → BeginsEntered (first_patterns m count) text ⊎ ((p : List ℕ) × IsEntered m count p × Begins m.pairing text p)
    forth [] h = inl tt
    forth (b ∷ bs) h =
        let e = (entered-first m).0 h.2 in
        let lt = e.0 in
        ⊎_elim
        (λ (less : h.0 < count). inl (h.0, h.1, (entered-first m).1 (less, e.1), h.3))
        (λ (ge : count ≤ h.0). let same : h.0 ≡ count = omega arith in
        inr (h.1, subst (λ n. IsEntered m n h.1) same e.1, h.3))
        (cases_lt h.0 count)

    first : (text : List ℕ) → BeginsEntered (first_patterns m count) text
        → BeginsEntered (first_patterns m (count + 1)) text
    first [] h = tt
    first (b ∷ bs) h = let e = (entered-first m).0 h.2 in let lt = e.0 in
        (h.0, h.1, (entered-first m).1 (omega arith, e.1), h.3)

-- a text that begins an entered pattern of the first n begins one of the first n or more
begins-more : (m : Dictionary) {fewer more : ℕ} (text : List ℕ) → fewer ≤ more
    → BeginsEntered (first_patterns m fewer) text → BeginsEntered (first_patterns m more) text
begins-more m [] le h = tt
begins-more m (b ∷ bs) le h = let e = (entered-first m).0 h.2 in let lt = e.0 in
    (h.0, h.1, (entered-first m).1 (omega arith, e.1), h.3)

-- all patterns are the first n, where n is at least their number
pub first-all : {m : Dictionary} {count : ℕ} → length m.patterns ≤ count → first_patterns m count ≡ m
first-all {m} {count} le = ap (λ ps. record m { patterns = ps }) (take_all count m.patterns le)

-- ---- own patterns, pattern by pattern

-- a greater number at the end leaves a list rising
rising-push : (ns : List ℕ) {k : ℕ} → AreRising ns → ((n : ℕ) → Contains ns n → n < k) → AreRising (ns ++ k ∷ [])
rising-push [] rising less = (λ later c. absurd (Contains-nil c), tt)
rising-push (n ∷ ns) {k} rising less = (
  λ later c. ⊎_elim
      (λ before. rising.0 later before)
      (λ last. ⊎_elim (λ (same : k ≡ later). let lt = less n (Contains-head ns) in omega arith)
      (λ none. absurd (Contains-nil none)) (Contains-cases [] last))
      (Contains-append_cases ns (k ∷ []) later c),
  rising-push ns rising.1 (λ i c. less i (Contains-tail ns c)),
)

-- with no patterns, no text has an own pattern and only the empty text begins an entered one
pub first-none : (m : Dictionary) (text : List ℕ)
    → AreOwn (first_patterns m 0) text [] × (BeginsEntered (first_patterns m 0) text → text ≡ [])
first-none m text = (
  (
    tt,
    λ n. (
      λ c. absurd (Contains-nil {y = n} c),
      λ own. let lt = ((own-first m {count = 0} {text = text} {n = n}).0 own).0 in
          absurd (omega arith),
    ),
  ),
  begins text,
)
  where
    begins : (text : List ℕ) → BeginsEntered (first_patterns m 0) text → text ≡ []
    begins [] h = refl
    begins (b ∷ bs) h = let lt = ((entered-first m {count = 0} {n = h.0} {p = h.1}).0 h.2).0 in absurd (omega arith)

-- a next pattern that is an own pattern comes last in the list
pub owns-push : (m : Dictionary) {count : ℕ} {text : List ℕ} (ns : List ℕ) → AreOwn (first_patterns m count) text ns
    → IsOwn m text count → AreOwn (first_patterns m (count + 1)) text (ns ++ count ∷ [])
owns-push m {count} {text} ns are own = (
  rising-push ns are.0 (λ n c. ((own-first m).0 ((are.1 n).0 c)).0),
  λ n. (
    λ c. ⊎_elim
        (λ before. let h = (own-first m).0 ((are.1 n).0 before) in let lt = h.0 in (own-first m).1 (omega arith, h.1))
        (λ last.
        ⊎_elim (λ (same : count ≡ n).
        subst (λ i. IsOwn (first_patterns m (count + 1)) text i) same ((own-first m).1 (omega arith, own)))
        (λ none. absurd (Contains-nil none)) (Contains-cases [] last))
        (Contains-append_cases ns (count ∷ []) n c),
    λ h.
        let e = (own-first m).0 h in
        let lt = e.0 in
        ⊎_elim
        (λ (less : n < count). Contains-append_left ns (count ∷ []) n ((are.1 n).1 ((own-first m).1 (less, e.1))))
        (λ (ge : count ≤ n). let same : count ≡ n = omega arith in
        subst (λ i. Contains (ns ++ count ∷ []) i) same (Contains-push ns count))
        (cases_lt n count),
  ),
)

-- a next pattern that isn't an own pattern leaves the list unchanged
pub owns-kept : (m : Dictionary) {count : ℕ} {text : List ℕ} (ns : List ℕ) → AreOwn (first_patterns m count) text ns
    → (¬ IsOwn m text count) → AreOwn (first_patterns m (count + 1)) text ns
owns-kept m {count} {text} ns are none = (
  are.0,
  λ n. (
    λ c. let h = (own-first m).0 ((are.1 n).0 c) in let lt = h.0 in (own-first m).1 (omega arith, h.1),
    λ h.
        let e = (own-first m).0 h in
        let lt = e.0 in
        ⊎_elim
        (λ (less : n < count). (are.1 n).1 ((own-first m).1 (less, e.1)))
        (λ (ge : count ≤ n). let same : n ≡ count = omega arith in absurd (none (subst (λ i. IsOwn m text i) same e.1)))
        (cases_lt n count),
  ),
)

-- An automaton has only one number of states, and so a dictionary within the limits passes none.
use Rattle.std.proofs.Common.{◌≡◌, ◌≢◌, ℕ, suc, ◌+◌, ◌≤◌, List, [], ◌∷◌, ◌++◌, length, Some, refl, sym, subst, ap, take, ◌<◌, ◌∙◌, ⊎_elim, arith, slice_get, length-append, length-take}
use Rattle.std.specs.List.{Contains, AllPairs}
use Rattle.std.proofs.lemmas.List.{get_or-take, take_more}
use Rattle.std.proofs.lemmas.Option.{slice_get_within, slice_get-get_or, get_or_from_slice_get}
use Rattle.ac_input.specs.Dictionary.{Dictionary, IsPattern, IsEntered}
use Rattle.ac_input.specs.Limits.{with_pattern, first_patterns, IsPrefix, HasStates, IsWithinLimits, Limit, PatternNumber, PatternLength, StateNumber, Passes, IsLimitAt}
use Rattle.ac_input.proofs.lemmas.ContainsLemmas.{Contains-nil, Contains-head, Contains-tail, Contains-cases}

-- without one of its elements a list is shorter by one, and has every other one
without : {X : Type 0} (ys : List X) (x : X) → Contains ys x
    → (zs : List X) × (length ys ≡ length zs + 1) × ((y : X) → y ≢ x → Contains ys y → Contains zs y)
without [] x c = absurd (Contains-nil c)
without {X} (z ∷ zs) x c =
    let rest = without zs x in
    ⊎_elim
    (λ (here : z ≡ x). (
      zs,
      omega arith,
      (λ y ne there.
          ⊎_elim
          (λ (same : z ≡ y). absurd (ne (sym same ∙ here)))
          (λ (later : Contains zs y). later)
          (Contains-cases zs there)),
    ))
    (λ (later : Contains zs x).
    let r = rest later in (
      z ∷ r.0,
      omega (arith, r.1),
      (λ y ne there.
          ⊎_elim
          (λ (same : z ≡ y). subst (λ w. Contains (z ∷ r.0) w) same (Contains-head r.0))
          (λ (further : Contains zs y). Contains-tail r.0 (r.2 y ne further))
          (Contains-cases zs there)),
    ))
    (Contains-cases zs c)

-- a list of distinct elements that all stand in another list is no longer than it
no_longer : {X : Type 0} (xs ys : List X) → AllPairs (λ s t. s ≢ t) xs → ((y : X) → Contains xs y → Contains ys y)
    → length xs ≤ length ys
no_longer [] ys apart inside = omega arith
no_longer {X} (x ∷ xs) ys apart inside =
    let r = without ys x (inside x (Contains-head xs)) in
    let shorter = no_longer xs r.0
    (λ i j d lt within. apart (suc i) (suc j) d (omega arith) (omega arith))
    (λ y c.
    let other : y ≢ x = λ same. apart 0 (suc c.0) y (omega arith) (omega (arith, c.1)) (sym same ∙ sym c.2) in
    r.2 y other (inside y (Contains-tail xs c))) in
    omega (arith, r.1)

-- an automaton has only one number of states
pub states-one : (m : Dictionary) (a b : ℕ) → HasStates m a → HasStates m b → a ≡ b
states-one m a b g h =
    let forth = no_longer g.0 h.0 g.1 (λ t c. (h.2 t).1 ((g.2 t).0 c)) in
    let back = no_longer h.0 g.0 h.1 (λ t c. (g.2 t).1 ((h.2 t).0 c)) in
    omega (arith, g.3, h.3)

-- the pattern that was added last
last-pattern : (ps : List (List ℕ)) (p : List ℕ) → slice_get (ps ++ p ∷ []) (length ps) ≡ Some p
last-pattern [] p = refl
last-pattern (q ∷ qs) p = last-pattern qs p

-- a pattern passes no limit if the dictionary with it is within all limits
pub within-none : (m : Dictionary) (p : List ℕ) (limit : Limit) → IsWithinLimits (with_pattern m p) → ¬ Passes m p limit
within-none m p PatternNumber w h = omega (arith, w.patterns, length-append m.patterns (p ∷ []))
within-none m p PatternLength w h = omega (arith, h.1, w.lengths (length m.patterns) p (last-pattern m.patterns p))
within-none m p StateNumber w h =
    let one = states-one (with_pattern m p) w.states.0 h.2.0 w.states.1 h.2.1 in
    omega (arith, w.states.2, h.2.2)

-- ---- the first patterns of a dictionary

-- a pattern of the first k is a pattern of the dictionary
first-pattern : (m : Dictionary) (k n : ℕ) (p : List ℕ) → IsPattern (first_patterns m k) n p → (n < k) × IsPattern m n p
first-pattern m k n p is =
    let within = slice_get_within (take k m.patterns) n p is in
    let long = length-take k m.patterns in
    let low : n < k = omega (arith, within, long) in
    let here : n < length m.patterns = omega (arith, within, long) in
    let front = get_or-take k m.patterns n p low in
    let read = get_or_from_slice_get (take k m.patterns) n p p is in
    (low, slice_get-get_or m.patterns n p here ∙ ap Some (sym front ∙ read))

-- a pattern of the dictionary whose number is below k is one of the first k
pattern-first : (m : Dictionary) {k n : ℕ} {p : List ℕ} → n < k → IsPattern m n p → IsPattern (first_patterns m k) n p
pattern-first m {k} {n} {p} low is =
    let within = slice_get_within m.patterns n p is in
    let long = length-take k m.patterns in
    slice_get-get_or (take k m.patterns) n p (omega (arith, within, long, low))
    ∙ ap Some (get_or-take k m.patterns n p low ∙ get_or_from_slice_get m.patterns n p p is)

-- a prefix of an entered pattern among the first k is one in the dictionary
first-prefix : (m : Dictionary) (k : ℕ) (t : List ℕ) → IsPrefix (first_patterns m k) t → IsPrefix m t
first-prefix m k t f =
    let n = f.entered.0 in
    let p = f.entered.1 in
    let e = f.entered.2 in
    let at = first-pattern m k n p e.0 in
    let entered : IsEntered m n p = (
      at.1,
      λ kind shadow. e.1 kind
          (shadow.0, shadow.1, shadow.2, pattern-first m (omega (arith, shadow.2, at.0)) shadow.3, shadow.4, shadow.5),
    ) in
    record { some = f.some; entered = (n, p, entered, f.entered.3, f.entered.4) }

-- the first n patterns and the next one are the first n + 1
first-next : (m : Dictionary) (n : ℕ) {p : List ℕ} → IsPattern m n p
    → with_pattern (first_patterns m n) p ≡ first_patterns m (n + 1)
first-next m n {p} is =
    let within = slice_get_within m.patterns n p is in
    ap (λ ps. record m { patterns = ps })
    (ap (λ q. take n m.patterns ++ q ∷ []) (sym (get_or_from_slice_get m.patterns n p p is))
    ∙ sym (take_more m.patterns n p within))

-- a dictionary that is within the limits passes none
pub within-no_limit : (m : Dictionary) (limit : Limit) → IsWithinLimits m → ¬ ((n : ℕ) × IsLimitAt m n limit)
within-no_limit m limit w h = by limit h.1.passed.2
  where
    by : (which : Limit) → Passes (first_patterns m h.0) h.1.passed.0 which → ⊥
    by PatternNumber past =
        let within = slice_get_within m.patterns h.0 h.1.passed.0 h.1.passed.1 in
        let long = length-take h.0 m.patterns in
        let most = w.patterns in
        omega (arith, past, within, long, most)
    by PatternLength past = let short = w.lengths h.0 h.1.passed.0 h.1.passed.1 in omega (arith, past.1, short)
    by StateNumber past =
        let next = first-next m h.0 h.1.passed.1 in
        let some = past.2.1 in
        let all = w.states.1 in
        let fewer = no_longer some.0 all.0 some.1
        (λ t c. (all.2 t).1 (first-prefix m (h.0 + 1) t (subst (λ d. IsPrefix d t) next ((some.2 t).0 c)))) in
        let most = w.states.2 in
        omega (arith, fewer, some.3, all.3, most, past.2.2)

-- The failures of all states, in order of their depth.
use Rattle.std.proofs.Common.{◌≡◌, ◌≢◌, ℕ, ◌+◌, ◌<◌, ◌≤◌, List, length, Option, Some, None, option_map, refl, sym, ap, subst, ◌∙◌, ⊎_elim, arith, slice_get, slice_index, slice_index_or, slice_set, replicate, length-set, get_or-set_same, get_or-set_other}
use Rattle.std.proofs.lemmas.Bool.{cases_lt, cases_eq}
use Rattle.std.proofs.lemmas.List.{get_or_read, length-replicate, get_or-replicate}
use Rattle.std.proofs.lemmas.Option.{slice_get_within, slice_get_read, get_or_from_slice_get}
use Rattle.ac_input.specs.Dictionary.{Dictionary}
use Rattle.ac_input.specs.States.{FailsTo}
use Rattle.ac_noncontiguous.specs.declared.trie.State.{State}
use Rattle.ac_noncontiguous.specs.Trie.Tree.{depth, text}
use Rattle.ac_noncontiguous.specs.Links.Order.{IsBreadthFirst}
use Rattle.ac_noncontiguous.specs.Links.{AreFails}
use Rattle.ac_noncontiguous.specs.Links.Failures.{AreShallower, AreFailsAbove}

-- ---- an element of a list that is set

-- the element that was set has its new value
pub get-set-same : {X : Type 0} (xs : List X) {i : ℕ} {x r : X} → i < length xs
    → slice_get (slice_set xs i x) i ≡ Some r → r ≡ x
get-set-same xs {i} {x} {r} within e =
    sym (get_or_from_slice_get (slice_set xs i x) i r r e) ∙ get_or-set_same xs i x r within

-- the other elements are unchanged
pub get-set-other : {X : Type 0} (xs : List X) {i j : ℕ} (x : X) {r : X} → j ≢ i
    → slice_get (slice_set xs i x) j ≡ Some r → slice_get xs j ≡ Some r
get-set-other xs {i} {j} x {r} ne e =
    let within : j < length xs = omega (arith, slice_get_within (slice_set xs i x) j r e, length-set xs i x) in
    slice_get_read xs (length xs) j r refl within
    (sym (get_or_from_slice_get (slice_set xs i x) j r r e) ∙ get_or-set_other xs i j x r ne)

-- ---- the order

-- the place of a state in the order
pub place-of : {states : List State} {order : List ℕ} → IsBreadthFirst states order → {i : ℕ} → i < length states
    → (k : ℕ) × (k < length order) × (slice_index order k ≡ i)
place-of {order} o {i} within =
    let c = o.all i within in
    (c.0, c.1, sym (get_or_read order c.0 i c.1 (sym c.2) 0))

-- a state that is read from the order
pub order-read : {states : List State} {order : List ℕ} {k id : ℕ} → IsBreadthFirst states order → k < length order
    → id ≡ slice_index_or order k id → (id ≡ slice_index order k) × (id < length states)
order-read {order} {k} {id} o lt read =
    let is : id ≡ slice_index order k = get_or_read order k id lt read 0 in
    (is, omega (arith, is, o.within k lt))

-- a shallower state comes earlier in the order
pub shallower-before : {states : List State} {order : List ℕ} → IsBreadthFirst states order → {j k : ℕ}
    → j < length order → k < length order → depth states (slice_index order j) < depth states (slice_index order k)
    → j < k
shallower-before {states} {order} o {j} {k} j_in k_in less =
    ⊎_elim
    (λ (lt : j < k). lt)
    (λ (ge : k ≤ j).
    ⊎_elim
    (λ (same : j ≡ k). absurd (omega (arith, ap (λ n. depth states (slice_index order n)) same)))
    (λ (ne : j ≢ k).
    ⊎_elim
    (λ (deep : depth states (slice_index order k) < depth states (slice_index order j)). absurd (omega arith))
    (λ (level : (depth states (slice_index order k) ≡ depth states (slice_index order j))
    × (slice_index order k < slice_index order j)). absurd (omega (arith, level.0)))
    (o.rising k j (omega arith) j_in))
    (cases_eq j k))
    (cases_lt j k)

-- no state comes twice in the order
pub order-apart : {states : List State} {order : List ℕ} → IsBreadthFirst states order → {j k : ℕ} → j < k
    → k < length order → slice_index order j ≢ slice_index order k
order-apart {states} {order} o {j} {k} lt within same =
    ⊎_elim
    (λ (deep : depth states (slice_index order j) < depth states (slice_index order k)).
    omega (arith, ap (depth states) same))
    (λ (level : (depth states (slice_index order j) ≡ depth states (slice_index order k))
    × (slice_index order j < slice_index order k)). omega (arith, level.1, same))
    (o.rising j k lt within)

-- ---- the failures so far

-- the failures of the first n states of the order are right
abbrev pub AreFirstFails : Dictionary → List State → List (Option ℕ) → List ℕ → ℕ → Type 0
AreFirstFails m states fails order most =
    (k : ℕ) (r : Option ℕ) → k < most → slice_get fails (slice_index order k) ≡ Some r
    → FailsTo m (text states (slice_index order k)) (option_map (text states) r)

-- at first no failure is set
pub fails-filled : {states : List State} {len : ℕ} {fails : List (Option ℕ)} → len ≡ length states
    → fails ≡ replicate len None → AreShallower states fails
fails-filled {len} {fails} all filled =
    record {
      counted = ap length filled ∙ (length-replicate len None ∙ all);
      shallower = λ i f e.
          let within : i < len =
          omega (
            arith,
            slice_get_within fails i (Some f) e,
            ap length filled,
            length-replicate {A = Option ℕ} len None,
          ) in
          let two : Some f ≡ None = sym (get_or_from_slice_get fails i (Some f) None e)
          ∙ (ap (λ xs. slice_index_or xs i None) filled ∙ get_or-replicate len i None None within) in
          cc;
    }

-- if the failures before a place in the order are right, so are those of all shallower states
pub fails-above : {m : Dictionary} {states : List State} (fails : List (Option ℕ)) {order : List ℕ} {k : ℕ}
    → IsBreadthFirst states order → k < length order → AreFirstFails m states fails order k
    → AreFailsAbove m states fails (depth states (slice_index order k))
fails-above {m} {states} fails o within known i r i_in shallow given =
    let p = place-of o i_in in
    let before = shallower-before o p.1 within (omega (arith, ap (depth states) p.2)) in
    subst (λ j. FailsTo m (text states j) (option_map (text states) r)) p.2
    (known p.0 r before (ap (slice_get fails) p.2 ∙ given))

-- one more failure is set
pub shallower-more : {states : List State} {fails : List (Option ℕ)} {i : ℕ} {r : Option ℕ} → AreShallower states fails
    → i < length states → ((f : ℕ) → r ≡ Some f → (f < length states) × (depth states f < depth states i))
    → AreShallower states (slice_set fails i r)
shallower-more {states} {fails} {i} {r} s within less =
    record {
      counted = length-set fails i r ∙ s.counted;
      shallower = λ j f e.
          ⊎_elim
          (λ (same : j ≡ i).
          let here : slice_get (slice_set fails i r) i ≡ Some (Some f) = ap (slice_get (slice_set fails i r)) (sym same)
          ∙ e in
          let h = less f (sym (get-set-same fails (omega (arith, s.counted)) here)) in
          (h.0, omega (arith, h.1, ap (depth states) same)))
          (λ (ne : j ≢ i). s.shallower j f (get-set-other fails r ne e))
          (cases_eq j i);
    }

pub fails-more : {m : Dictionary} {states : List State} (fails : List (Option ℕ)) {order : List ℕ} {k i : ℕ}
    (r : Option ℕ) → IsBreadthFirst states order → k < length order → length fails ≡ length states
    → i ≡ slice_index order k → FailsTo m (text states i) (option_map (text states) r)
    → AreFirstFails m states fails order k → AreFirstFails m states (slice_set fails i r) order (k + 1)
fails-more {m} {states} fails {order} {k} {i} r o within len is leads known j q lt e =
    ⊎_elim
    (λ (before : j < k).
    let apart = order-apart o before within in
    known j q before (get-set-other fails r (λ same. apart (same ∙ is)) e))
    (λ (ge : k ≤ j).
    let here : slice_index order j ≡ i = ap (slice_index order) (let same : j ≡ k = omega arith in same) ∙ sym is in
    let in_ : i < length fails = omega (arith, o.within k within, is, len) in
    let is_r = get-set-same fails in_ (ap (slice_get (slice_set fails i r)) (sym here) ∙ e) in
    subst (λ z. FailsTo m (text states z) (option_map (text states) q)) (sym here)
    (subst (λ z. FailsTo m (text states i) (option_map (text states) z)) (sym is_r) leads))
    (cases_lt j k)

-- at the end of the order all failures are right
pub fails-all : {m : Dictionary} {states : List State} {fails : List (Option ℕ)} {order : List ℕ} {k : ℕ}
    → IsBreadthFirst states order → length order ≤ k → AreShallower states fails → AreFirstFails m states fails order k
    → AreFails m states fails
fails-all {m} {states} {fails} o past s known =
    record {
      counted = s.counted;
      within = λ i f e. (s.shallower i f e).0;
      leads = λ i r e.
          let i_in : i < length states = omega (arith, s.counted, slice_get_within fails i r e) in
          let p = place-of o i_in in
          subst (λ j. FailsTo m (text states j) (option_map (text states) r)) p.2
          (known p.0 r (omega (arith, p.1)) (ap (slice_get fails) p.2 ∙ e));
    }

-- The states of a trie in order of their depth.
use Rattle.std.proofs.Common.{◌≡◌, ◌≢◌, ◌⊎◌, ℕ, ◌+◌, ◌<◌, ◌≤◌, List, [], ◌∷◌, ◌++◌, length, get_or, sym, ap, subst, ◌∙◌, inl, inr, ⊎_elim, arith, slice_index, slice_index_or, replicate, slice_set, length-append, length-set}
use Rattle.std.specs.List.{Contains}
use Rattle.std.proofs.lemmas.Bool.{cases_lt, cases_eq}
use Rattle.std.proofs.lemmas.List.{get_or_append_left, get_or-append-add, get_or_read, length-replicate, get_or-replicate}
use Rattle.ac_noncontiguous.specs.declared.trie.State.{State}
use Rattle.ac_noncontiguous.specs.Trie.Tree.{IsTree, depth, state_at, no_state}
use Rattle.ac_noncontiguous.specs.Links.Order.{IsNextOf, AreLevels, ComesBefore, AreInOrder, IsBreadthFirst}
use Rattle.ac_noncontiguous.proofs.lemmas.IndexLemmas.{set-read}
use Rattle.ac_noncontiguous.proofs.trie.LinkedLemmas.{depth-le}

-- past the last state no level has a state
pub levels-none : {states : List State} {first next : List ℕ} → length first ≡ length states
    → length next ≡ length states → ((d : ℕ) → d < length states → slice_index first d ≡ length states)
    → AreLevels states (length states) first next
levels-none first_len next_len none =
    record {
      lens = (first_len, next_len);
      firsts =
          λ d within.
          record {
            found = λ lt. absurd (omega (arith, none d within));
            least = λ i from lt same. absurd (omega arith);
          };
      nexts = λ i from within. absurd (omega arith);
    }

-- filled with the number of states, the lists say that no level has a state
pub levels-filled : {states : List State} {len : ℕ} {first next : List ℕ} → len ≡ length states
    → first ≡ replicate len len → length next ≡ len → AreLevels states len first next
levels-filled {states} {len} {first} {next} all filled next_len =
    subst (λ n. AreLevels states n first next) (sym all)
    (levels-none (ap length filled ∙ (length-replicate len len ∙ all)) (next_len ∙ all)
    (λ d within. ap (λ xs. slice_index xs d) filled ∙ (get_or-replicate len d len 0 (omega arith) ∙ all)))

-- one more state is the first of its level
pub levels-more : {states : List State} {from d at : ℕ} {first next : List ℕ} → from < length states
    → d ≡ depth states from → d < length states → at ≡ slice_index first d → AreLevels states (from + 1) first next
    → AreLevels states from (slice_set first d from) (slice_set next from at)
levels-more {states} {from} {d} {at} {first} {next} within deep d_in read l =
    record {
      lens = (length-set first d from ∙ l.lens.0, length-set next from at ∙ l.lens.1);
      firsts = λ e e_in.
          set-read (IsNextOf states e from) first from (omega (arith, l.lens.0))
          (λ same. record { found = λ _. (omega arith, sym (same ∙ deep)); least = λ i past lt level. past })
          (λ ne.
          let h = l.firsts e e_in in
          record {
            found = λ lt. (omega (arith, (h.found lt).0), (h.found lt).1);
            least = λ i past lt level.
                ⊎_elim
                (λ (is_from : i ≡ from). absurd (ne (sym level ∙ (ap (depth states) is_from ∙ sym deep))))
                (λ (later : i ≢ from). h.least i (omega arith) lt level)
                (cases_eq i from);
          });
      nexts = λ i past i_in.
          set-read (IsNextOf states (depth states i) (i + 1)) next at (omega (arith, l.lens.1))
          (λ same.
          let level : d ≡ depth states i = deep ∙ ap (depth states) (sym same) in
          subst (IsNextOf states (depth states i) (i + 1)) (sym read)
          (subst (λ e. IsNextOf states e (i + 1) (slice_index first d)) level
          (subst (λ f. IsNextOf states d (f + 1) (slice_index first d)) (sym same) (l.firsts d d_in))))
          (λ ne. l.nexts i (omega arith) i_in);
    }

-- ---- the order

-- an element of a list is one of it with one more element
pub contains-kept : (xs : List ℕ) (x : ℕ) {y : ℕ} → Contains xs y → Contains (xs ++ x ∷ []) y
contains-kept xs x {y} c =
    (c.0, omega (arith, c.1, length-append xs (x ∷ [])), get_or_append_left xs (x ∷ []) y c.0 c.1 ∙ c.2)

-- the element that was appended is the last one, and the others stay where they are
pub contains-last : (xs : List ℕ) {x : ℕ} → Contains (xs ++ x ∷ []) x
contains-last xs {x} =
    let e : length xs + 0 ≡ length xs = omega arith in (
      length xs,
      omega (arith, length-append xs (x ∷ [])),
      subst (λ n. get_or (xs ++ x ∷ []) n x ≡ x) e (get_or-append-add xs (x ∷ []) 0 x),
    )

pub index-kept : (xs : List ℕ) (x k : ℕ) → k < length xs → slice_index (xs ++ x ∷ []) k ≡ slice_index xs k
index-kept xs x k within = get_or_append_left xs (x ∷ []) 0 k within

pub index-last : (xs : List ℕ) {x k : ℕ} → k ≡ length xs → slice_index (xs ++ x ∷ []) k ≡ x
index-last xs {x} {k} last = let e : length xs + 0 ≡ k = omega arith in
    subst (λ n. get_or (xs ++ x ∷ []) n 0 ≡ x) e (get_or-append-add xs (x ∷ []) 0 0)

-- the next state of the depth comes next
pub order-more : {states : List State} {d from at : ℕ} {order : List ℕ} → IsNextOf states d from at → at < length states
    → AreInOrder states d from order → AreInOrder states d (at + 1) (order ++ at ∷ [])
order-more {states} {d} {from} {at} {order} n inside o =
    let f = n.found inside in
    let wider : (i : ℕ) → ((depth states i < d) ⊎ ((depth states i ≡ d) × (i < from)))
    → ((depth states i < d) ⊎ ((depth states i ≡ d) × (i < (at + 1)))) =
    λ i p. ⊎_elim (λ (less : depth states i < d). inl less)
    (λ (same : (depth states i ≡ d) × (i < from)). inr (same.0, omega (arith, same.1, f.0))) p in
    let more : (k : ℕ) → k < length (order ++ at ∷ []) → (k < length order) ⊎ (k ≡ length order) =
    λ k lt. ⊎_elim (λ (old : k < length order). inl old)
    (λ (ge : length order ≤ k). inr (omega (arith, length-append order (at ∷ [])))) (cases_lt k (length order)) in
    record {
      all = λ i within passed.
          ⊎_elim
          (λ (less : depth states i < d). contains-kept order at (o.all i within (inl less)))
          (λ (same : (depth states i ≡ d) × (i < at + 1)).
          ⊎_elim
          (λ (before : i < from). contains-kept order at (o.all i within (inr (same.0, before))))
          (λ (past : from ≤ i).
          let here : at ≡ i = omega (arith, same.1, n.least i past within same.0) in
          subst (λ j. Contains (order ++ at ∷ []) j) here (contains-last order))
          (cases_lt i from))
          passed;
      within = λ k lt.
          ⊎_elim
          (λ (old : k < length order).
          let w = o.within k old in
          subst (λ i. (i < length states) × ((depth states i < d) ⊎ ((depth states i ≡ d) × (i < (at + 1)))))
          (sym (index-kept order at k old)) (w.0, wider (slice_index order k) w.1))
          (λ (last : k ≡ length order).
          subst (λ i. (i < length states) × ((depth states i < d) ⊎ ((depth states i ≡ d) × (i < (at + 1)))))
          (sym (index-last order last)) (inside, inr (f.1, omega arith)))
          (more k lt);
      rising = λ j k lt within.
          ⊎_elim
          (λ (old : k < length order).
          subst (λ i. ComesBefore states i (slice_index (order ++ at ∷ []) k))
          (sym (index-kept order at j (omega arith)))
          (subst (λ i. ComesBefore states (slice_index order j) i) (sym (index-kept order at k old))
          (o.rising j k lt old)))
          (λ (last : k ≡ length order).
          let j_in : j < length order = omega arith in
          let w = o.within j j_in in
          subst (λ i. ComesBefore states i (slice_index (order ++ at ∷ []) k)) (sym (index-kept order at j j_in))
          (subst (λ i. ComesBefore states (slice_index order j) i) (sym (index-last order last))
          (⊎_elim
          (λ (less : depth states (slice_index order j) < d). inl (omega (arith, f.1)))
          (λ (same : (depth states (slice_index order j) ≡ d) × (slice_index order j < from)).
          inr (same.0 ∙ sym f.1, omega (arith, same.1, f.0)))
          w.1)))
          (more k within);
    }

-- the states of the depth are all in order
pub order-next : (states : List State) (d from at : ℕ) (order : List ℕ) → IsNextOf states d from at → length states ≤ at
    → AreInOrder states d from order → AreInOrder states (d + 1) 0 order
order-next states d from at order n past o =
    record {
      all = λ i within passed.
          ⊎_elim
          (λ (less : depth states i < d + 1).
          ⊎_elim
          (λ (lt : depth states i < d). o.all i within (inl lt))
          (λ (ge : d ≤ depth states i).
          let level : depth states i ≡ d = omega arith in
          ⊎_elim
          (λ (before : i < from). o.all i within (inr (level, before)))
          (λ (after : from ≤ i). absurd (omega (arith, n.least i after within level)))
          (cases_lt i from))
          (cases_lt (depth states i) d))
          (λ (same : (depth states i ≡ d + 1) × (i < 0)). absurd (omega (arith, same.1)))
          passed;
      within = λ k lt.
          let w = o.within k lt in (
            w.0,
            inl
                (⊎_elim (λ (less : depth states (slice_index order k) < d). omega arith)
                (λ (same : (depth states (slice_index order k) ≡ d) × (slice_index order k < from)).
                omega (arith, same.0)) w.1),
          );
      rising = o.rising;
    }

-- the states of all depths are in order
pub order-all : {states : List State} {d : ℕ} {order : List ℕ} → IsTree states → length states ≤ d
    → AreInOrder states d 0 order → IsBreadthFirst states order
order-all {states} tree past o =
    record {
      all = λ i within. o.all i within (inl (omega (arith, depth-le states tree i (omega arith) within)));
      within = λ k lt. (o.within k lt).0;
      rising = o.rising;
    }

-- the depth of a state that is read is its own, and is less than the number of states
pub level-in : (states : List State) {from : ℕ} {s : State} → IsTree states → from < length states
    → s ≡ slice_index_or states from s → (s.depth ≡ depth states from) × (s.depth < length states)
level-in states {from} {s} tree within read =
    let was : s ≡ state_at states from = get_or_read states from s within read no_state in
    let same : s.depth ≡ depth states from = ap (λ z. z.depth) was in
    (same, omega (arith, depth-le states tree from (omega arith) within))

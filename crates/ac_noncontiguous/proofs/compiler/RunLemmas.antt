-- Before the starts and after them, states come in breadth-first order, and no two but the starts stand for one trie
-- state.
use Rattle.std.proofs.Common.{◌≡◌, ◌≢◌, ◌⊎◌, ℕ, suc, ◌+◌, ◌-◌, ◌<◌, ◌≤◌, Bool, true, false, List, [], ◌∷◌, ◌++◌, length, get_or, drop, refl, sym, ap, subst, ◌∙◌, inl, inr, ⊎_elim, arith, slice_index, length-append, length-drop}
use Rattle.std.specs.List.{Contains, AllPairs}
use Rattle.std.proofs.lemmas.Bool.{cases_lt, cases_eq}
use Rattle.std.proofs.lemmas.Bool.Decides.{nat_tests}
use Rattle.std.proofs.lemmas.List.{get_or_append_left, get_or-append-add, get_or_default, get_or-drop}
use Rattle.std.proofs.lemmas.List.Elements.{Contains-get_or}
use Rattle.std.proofs.lemmas.List.Kept.{AllPairs-filter}
use Rattle.ac_input.proofs.lemmas.ContainsLemmas.{Contains-from_filter}
use Rattle.ac_noncontiguous.specs.declared.links.Range.{Range}
use Rattle.ac_noncontiguous.specs.declared.trie.State.{State}
use Rattle.ac_noncontiguous.specs.declared.compiler.numbering.Listed.{Listed}
use Rattle.ac_noncontiguous.specs.Nfa.{InOneRun}
use Rattle.ac_noncontiguous.specs.Trie.Tree.{IsTree}
use Rattle.ac_noncontiguous.specs.Links.Order.{ComesBefore, IsBreadthFirst}
use Rattle.ac_noncontiguous.specs.Compiler.Numbering.{is_chosen, chosen, numbered, AreListed, AreInRuns}
use Rattle.ac_noncontiguous.proofs.compiler.PlacesLemmas.{before-apart, length-numbered, places-listed}

-- ---- the places of a numbering

-- the elements before the starts are the first list's
numbered-low : (first second : List ℕ) (j : ℕ) → 1 < j → j < length first + 2
    → slice_index (numbered first second) j ≡ slice_index first (j - 2)
numbered-low first second j past low =
    let f = 0 ∷ (0 ∷ first) in
    let g = f ++ 0 ∷ [] in
    let h = g ++ 0 ∷ [] in
    let g_len = length-append f (0 ∷ []) in
    let h_len = length-append g (0 ∷ []) in
    let k = j - 2 in
    let back : suc (suc k) ≡ j = omega arith in
    let inner : slice_index f (suc (suc k)) ≡ slice_index first k = refl in
    get_or_append_left h second 0 j (omega arith)
    ∙ (get_or_append_left g (0 ∷ []) 0 j (omega arith)
    ∙ (get_or_append_left f (0 ∷ []) 0 j (omega arith) ∙ (ap (slice_index f) (sym back) ∙ inner)))

-- the elements after the starts are the second list's
numbered-high : (first second : List ℕ) (j : ℕ) → length first + 3 < j
    → slice_index (numbered first second) j ≡ slice_index second (j - (length first + 4))
numbered-high first second j past =
    let f = 0 ∷ (0 ∷ first) in
    let g = f ++ 0 ∷ [] in
    let h = g ++ 0 ∷ [] in
    let g_len = length-append f (0 ∷ []) in
    let h_len = length-append g (0 ∷ []) in
    let k = j - (length first + 4) in
    let back : length h + k ≡ j = omega arith in
    ap (slice_index (numbered first second)) (sym back) ∙ get_or-append-add h second k 0

-- ---- the order

-- the states without the start come in breadth-first order
rest-ordered : {states : List State} {order : List ℕ} → IsBreadthFirst states order
    → AllPairs (ComesBefore states) (drop 1 order)
rest-ordered {states} {order} b i j d lt within =
    let long = length-drop 1 order in
    let at : (k : ℕ) → k < length (drop 1 order)
    → slice_index order (1 + k) ≡ get_or (drop 1 order) k d =
    λ k inside. get_or_default order (1 + k) 0 d (omega (arith, inside, long)) ∙ sym (get_or-drop 1 order k d) in
    subst (λ x. ComesBefore states x (get_or (drop 1 order) j d)) (at i (omega (arith, lt, within)))
    (subst (λ y. ComesBefore states (slice_index order (1 + i)) y) (at j within)
    (b.rising (1 + i) (1 + j) (omega arith) (omega (arith, within, long))))

-- the chosen states come in breadth-first order
chosen-ordered : {states : List State} (ranges : List Range) (which : Bool) {order : List ℕ}
    → IsBreadthFirst states order → {i j : ℕ} → i < j → j < length (chosen ranges which (drop 1 order))
    → ComesBefore states (slice_index (chosen ranges which (drop 1 order)) i)
    (slice_index (chosen ranges which (drop 1 order)) j)
chosen-ordered {states} ranges which {order} b {i} {j} lt within =
    AllPairs-filter (ComesBefore states) (is_chosen ranges which) (drop 1 order) (rest-ordered b) i j 0 lt within

-- no state is chosen both as one that matches and as one that doesn't
chosen-apart : (ranges : List Range) (rest : List ℕ) {x y : ℕ} → Contains (chosen ranges true rest) x
    → Contains (chosen ranges false rest) y → x ≢ y
chosen-apart ranges rest {x} some none same =
    let yes = (Contains-from_filter (is_chosen ranges true) rest some).1 in
    let no : is_chosen ranges false x ≡ true = ap (is_chosen ranges false) same
    ∙ (Contains-from_filter (is_chosen ranges false) rest none).1 in
    absurd (grind (arith, nat_tests))

-- both starts hold the trie's start
at-starts : (at : List ℕ) {start k : ℕ} → slice_index at start ≡ 0 → slice_index at (start + 1) ≡ 0 → start ≤ k
    → k ≤ start + 1 → slice_index at k ≡ 0
at-starts at {start} {k} zero_start zero_next low high =
    ⊎_elim
    (λ (one : k ≡ start). ap (slice_index at) one ∙ zero_start)
    (λ (two : k ≢ start). let e : k ≡ start + 1 = omega (arith, low, high, two) in ap (slice_index at) e ∙ zero_next)
    (cases_eq k start)

-- the places of a numbering are in runs
pub places-runs : {states : List State} {ranges : List Range} {order : List ℕ} {places : Listed} → IsTree states
    → IsBreadthFirst states order → AreListed ranges (drop 1 order) places
    → AreInRuns states places.at.items places.start
places-runs {states} {ranges} {order} {places} tree b listed =
    let rest = drop 1 order in
    let first = chosen ranges true rest in
    let second = chosen ranges false rest in
    let at = numbered first second in
    let p = places-listed tree b listed in
    let start_is = listed.start in
    let len = length-numbered first second in
    let size : length places.at.items ≡ length at = ap length listed.at in
    let here : (k : ℕ) → slice_index places.at.items k ≡ slice_index at k =
    λ k. ap (λ xs. slice_index xs k) listed.at in
    let low : (k : ℕ) → 1 < k → k < places.start
    → slice_index first (k - 2) ≡ slice_index places.at.items k =
    λ k past below. sym (here k ∙ numbered-low first second k past (omega (arith, below, start_is))) in
    let high : (k : ℕ) → places.start + 1 < k
    → slice_index second (k - (length first + 4)) ≡ slice_index places.at.items k =
    λ k past. sym (here k ∙ numbered-high first second k (omega (arith, past, start_is))) in
    let rising : (j k : ℕ) → j < k → k < length places.at.items → InOneRun places.start j k
    → ComesBefore states (slice_index places.at.items j) (slice_index places.at.items k) =
    λ j k lt within run.
    ⊎_elim
    (λ (front : (1 < j) × (k < places.start)).
    subst (λ x. ComesBefore states x (slice_index places.at.items k)) (low j front.0 (omega (arith, lt, front.1)))
    (subst (λ y. ComesBefore states (slice_index first (j - 2)) y) (low k (omega (arith, lt, front.0)) front.1)
    (chosen-ordered ranges true b (omega (arith, lt, front.0)) (omega (arith, lt, front.0, front.1, start_is)))))
    (λ (behind : places.start + 1 < j).
    subst (λ x. ComesBefore states x (slice_index places.at.items k)) (high j behind)
    (subst (λ y. ComesBefore states (slice_index second (j - (length first + 4))) y)
    (high k (omega (arith, lt, behind)))
    (chosen-ordered ranges false b (omega (arith, lt, behind, start_is))
    (omega (arith, lt, behind, within, size, len, start_is)))))
    run in
    let zero_next : slice_index places.at.items (places.start + 1) ≡ 0 = p.starts.3 in
    let zero_start : slice_index places.at.items places.start ≡ 0 = p.starts.2 in
    record {
      rising = rising;
      apart = λ j k past lt within same.
          let not_run : ¬ InOneRun places.start j k = λ run. before-apart states (rising j k lt within run) same in
          let is_start : (i : ℕ) → 1 < i → i < length places.at.items → slice_index places.at.items i ≡ 0
          → (i ≡ places.start) ⊎ (i ≡ places.start + 1) = λ i some inside none. p.others i some inside none in
          ⊎_elim
          (λ (front : j < places.start).
          absurd (⊎_elim
          (λ (below : k < places.start). not_run (inl (past, below)))
          (λ (above : places.start ≤ k).
          ⊎_elim
          (λ (far : places.start + 1 < k).
          chosen-apart ranges rest
          (subst (λ x. Contains first x) (low j past front)
          (Contains-get_or first (j - 2) 0 (omega (arith, past, front, start_is))))
          (subst (λ x. Contains second x) (high k far)
          (Contains-get_or second (k - (length first + 4)) 0 (omega (arith, far, within, size, len, start_is))))
          same)
          (λ (near : k ≤ places.start + 1).
          let none = at-starts places.at.items zero_start zero_next above near in
          ⊎_elim (λ (e : j ≡ places.start). omega (arith, e, front))
          (λ (e : j ≡ places.start + 1). omega (arith, e, front))
          (is_start j past (omega (arith, lt, within)) (same ∙ none)))
          (cases_lt (places.start + 1) k))
          (cases_lt k places.start)))
          (λ (back : places.start ≤ j).
          ⊎_elim
          (λ (far : places.start + 1 < j). absurd (not_run (inr far)))
          (λ (near : j ≤ places.start + 1).
          let none = at-starts places.at.items zero_start zero_next back near in
          ⊎_elim
          (λ (e : k ≡ places.start). absurd (omega (arith, e, lt, back)))
          (λ (e : k ≡ places.start + 1). (omega (arith, e, lt, back), e))
          (is_start k (omega (arith, past, lt)) within (sym same ∙ none)))
          (cases_lt (places.start + 1) j))
          (cases_lt j places.start);
    }

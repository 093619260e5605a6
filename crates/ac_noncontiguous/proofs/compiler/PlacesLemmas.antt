-- The trie states in the order of the numbers of the states that stand for them.
use Rattle.std.proofs.Common.{◌≡◌, ◌≢◌, ◌↔◌, ◌⊎◌, ℕ, zero, suc, ◌+◌, ◌-◌, ◌<◌, ◌≤◌, true, false, List, [], ◌∷◌, ◌++◌, length, get_or, take, drop, refl, sym, ap, subst, ◌∙◌, inl, inr, ⊎_elim, arith, slice_index, length-append, length-drop}
use Rattle.std.specs.List.{Contains, range_with_len}
use Rattle.std.proofs.lemmas.Bool.{cases_lt, cases_eq}
use Rattle.std.proofs.lemmas.Bool.Decides.{nat_tests}
use Rattle.std.proofs.lemmas.List.{get_or_append_left, get_or-append-add, get_or_default, take_all}
use Rattle.std.proofs.lemmas.List.Elements.{Contains-get_or}
use Rattle.std.proofs.lemmas.List.Filters.{length-filter_both}
use Rattle.std.proofs.lemmas.List.FromFn.{length-range_with_len, get_or-range_with_len}
use Rattle.std.proofs.lemmas.Grind.{get_or_after_one}
use Rattle.ac_input.specs.Pairing.{IsDistinct}
use Rattle.ac_input.proofs.lemmas.ContainsLemmas.{Contains-filter, Contains-from_filter}
use Rattle.ac_input.proofs.lemmas.DistinctLemmas.{distinct-shorter}
use Rattle.ac_noncontiguous.specs.declared.links.Range.{Range}
use Rattle.ac_noncontiguous.specs.declared.trie.State.{State}
use Rattle.ac_noncontiguous.specs.declared.compiler.numbering.Listed.{Listed}
use Rattle.ac_noncontiguous.specs.Trie.Tree.{IsTree, depth}
use Rattle.ac_noncontiguous.specs.Links.Order.{ComesBefore, IsBreadthFirst}
use Rattle.ac_noncontiguous.specs.Compiler.Numbering.{range_len, is_chosen, chosen, numbered, AreListed, ArePlaces, AreFirstNumbers, AreTrieNumbers, IsLastMatch}
use Rattle.ac_noncontiguous.proofs.lemmas.OrderLemmas.{index-last}

-- ---- the order

-- a state that comes before another is a different one
pub before-apart : (states : List State) {i j : ℕ} → ComesBefore states i j → i ≢ j
before-apart states {i} {j} b same =
    let deep : depth states i ≡ depth states j = ap (depth states) same in
    ⊎_elim (λ (less : depth states i < depth states j). omega arith)
    (λ (level : (depth states i ≡ depth states j) × (i < j)). omega (arith, level.1)) b

-- a list of which no two places are equal
distinct-from : (xs : List ℕ) → ((j k : ℕ) → j < k → k < length xs → slice_index xs j ≢ slice_index xs k)
    → IsDistinct xs
distinct-from [] apart = tt
distinct-from (x ∷ xs) apart = (
  (λ c. apart 0 (suc c.0) (omega arith) (omega (arith, c.1)) (sym c.2 ∙ get_or_default xs c.0 x 0 c.1)),
  distinct-from xs (λ j k lt within. apart (suc j) (suc k) (omega arith) (omega arith)),
)

-- the order has at most as many states as the trie
pub order-short : {states : List State} {order : List ℕ} → IsBreadthFirst states order → length order ≤ length states
order-short {states} {order} b =
    let n = length states in
    let d = distinct-from order (λ j k lt within. before-apart states (b.rising j k lt within)) in
    let h = distinct-shorter order (range_with_len 0 n) d
    (λ x c.
    let here : slice_index order c.0 ≡ x = get_or_default order c.0 0 x c.1 ∙ c.2 in
    let small : x < n = omega (arith, b.within c.0 c.1) in
    (x, omega (arith, length-range_with_len 0 n), get_or-range_with_len 0 n x x small ∙ omega arith)) in
    omega (arith, length-range_with_len 0 n)

-- the numbers below one are all different
range-distinct : (n : ℕ) → IsDistinct (range_with_len 0 n)
range-distinct n =
    let at : (k : ℕ) → k < n → slice_index (range_with_len 0 n) k ≡ k = λ k lt. get_or-range_with_len 0 n k 0 lt
    ∙ omega arith in
    distinct-from (range_with_len 0 n)
    (λ j k lt within same. let a = at j (omega (arith, length-range_with_len 0 n)) in
    let b = at k (omega (arith, length-range_with_len 0 n)) in omega arith)

-- the order has at least as many states as the trie
pub order-long : {states : List State} {order : List ℕ} → IsBreadthFirst states order → length states ≤ length order
order-long {states} {order} b =
    let n = length states in
    let h = distinct-shorter (range_with_len 0 n) order (range-distinct n)
    (λ x c.
    let small : c.0 < n = omega (arith, c.1, length-range_with_len 0 n) in
    let here : x ≡ c.0 = sym c.2 ∙ (get_or-range_with_len 0 n c.0 x small ∙ omega arith) in
    b.all x (omega arith)) in
    omega (arith, length-range_with_len 0 n)

-- the start comes first in the order, and nowhere else
pub order-start : {states : List State} {order : List ℕ} → IsTree states → IsBreadthFirst states order
    → (0 < length order) × (slice_index order 0 ≡ 0) × ((k : ℕ) → 0 < k → k < length order → 0 < slice_index order k)
order-start {states} {order} tree b =
    let c = b.all 0 tree.start.0 in
    let here : slice_index order c.0 ≡ 0 = get_or_default order c.0 0 0 c.1 ∙ c.2 in
    let level : (i : ℕ) → i ≡ 0 → depth states i ≡ 0 = λ i e. ap (depth states) e ∙ tree.start.1 in
    let later : (j k : ℕ) → j < k → k < length order → 0 < slice_index order k =
    λ j k lt within.
    ⊎_elim
    (λ (none : slice_index order k ≡ 0).
    let flat = level (slice_index order k) none in
    absurd (⊎_elim (λ (less : depth states (slice_index order j) < depth states (slice_index order k)). omega arith)
    (λ (same : (depth states (slice_index order j) ≡ depth states (slice_index order k))
    × (slice_index order j < slice_index order k)). omega (arith, same.1)) (b.rising j k lt within)))
    (λ (some : slice_index order k ≢ 0). omega arith)
    (cases_eq (slice_index order k) 0) in
    let first : c.0 ≡ 0 =
    ⊎_elim
    (λ (none : c.0 ≡ 0). none)
    (λ (some : c.0 ≢ 0). absurd (omega (arith, later 0 c.0 (omega arith) c.1)))
    (cases_eq c.0 0) in
    (omega (arith, c.1), ap (slice_index order) (sym first) ∙ here, λ k some within. later 0 k some within)

-- after the start come all states but the start
pub order-rest : {states : List State} {order : List ℕ} → IsTree states → IsBreadthFirst states order → (i : ℕ)
    → (Contains (drop 1 order) i → (0 < i) × (i < length states))
    × (0 < i → i < length states → Contains (drop 1 order) i)
order-rest {order} tree b i =
    let s = order-start tree b in
    let len = length-drop 1 order in (
      (λ c.
          let at : slice_index order (1 + c.0) ≡ i = sym (get_or_after_one order c.0 0)
          ∙ (get_or_default (drop 1 order) c.0 0 i c.1 ∙ c.2) in (
            omega (arith, s.2 (1 + c.0) (omega arith) (omega (arith, c.1))),
            omega (arith, b.within (1 + c.0) (omega (arith, c.1))),
          )),
      (λ some within.
          let c = b.all i within in
          let at : slice_index order c.0 ≡ i = get_or_default order c.0 0 i c.1 ∙ c.2 in
          let k = c.0 - 1 in
          let later : 0 < c.0 =
          ⊎_elim
          (λ (none : c.0 ≡ 0). absurd (omega (arith, s.1, ap (slice_index order) none)))
          (λ (ne : c.0 ≢ 0). omega arith)
          (cases_eq c.0 0) in
          let back : 1 + k ≡ c.0 = omega arith in
          let room : k < length (drop 1 order) = omega (arith, c.1) in
          (k, room, get_or_after_one order k i ∙ (ap (λ z. get_or order z i) back ∙ c.2))),
    )

-- ---- the places of numbers

pub length-numbered : (first second : List ℕ) → length (numbered first second) ≡ length first + length second + 4
length-numbered first second =
    let f = 0 ∷ (0 ∷ first) in
    let g = f ++ 0 ∷ [] in
    let h = g ++ 0 ∷ [] in
    omega (arith, length-append h second, length-append g (0 ∷ []), length-append f (0 ∷ []))

-- what holds of the dead state, of the fail state and of each listed place holds of every place before the starts
front-each : (first : List ℕ) {P : ℕ → ℕ → Type 0} → P 0 0 → P 1 0
    → ((j x : ℕ) → 1 < j → j < length first + 2 → Contains first x → P j x) → (j : ℕ) → j < length first + 2
    → P j (slice_index (0 ∷ (0 ∷ first)) j)
front-each first zeroth one ones zero within = zeroth
front-each first zeroth one ones (suc zero) within = one
front-each first zeroth one ones (suc (suc k)) within =
    ones (suc (suc k)) (slice_index first k) (omega arith) (omega arith) (Contains-get_or first k 0 (omega arith))

-- what holds of each place before the starts, of each start and of each place after them, holds of every place
pub numbered-each : (first second : List ℕ) (P : ℕ → ℕ → Type 0) → P 0 0 → P 1 0
    → ((j x : ℕ) → 1 < j → j < length first + 2 → Contains first x → P j x) → P (length first + 2) 0
    → P (length first + 3) 0 → ((j x : ℕ) → length first + 3 < j → Contains second x → P j x) → (j : ℕ)
    → j < length (numbered first second) → P j (slice_index (numbered first second) j)
numbered-each first second P zeroth one ones start next twos j within =
    let f = 0 ∷ (0 ∷ first) in
    let g = f ++ 0 ∷ [] in
    let h = g ++ 0 ∷ [] in
    let f_len : length f ≡ length first + 2 = omega arith in
    let g_len = length-append f (0 ∷ []) in
    let h_len = length-append g (0 ∷ []) in
    let all = length-append h second in
    let in_h : (k : ℕ) → k < length h
    → slice_index (numbered first second) k ≡ slice_index h k = λ k lt. get_or_append_left h second 0 k lt in
    let in_g : (k : ℕ) → k < length g
    → slice_index h k ≡ slice_index g k = λ k lt. get_or_append_left g (0 ∷ []) 0 k lt in
    let in_f : (k : ℕ) → k < length f
    → slice_index g k ≡ slice_index f k = λ k lt. get_or_append_left f (0 ∷ []) 0 k lt in
    ⊎_elim
    (λ (low : j < length first + 2).
    let at : slice_index (numbered first second) j ≡ slice_index f j = in_h j (omega arith)
    ∙ (in_g j (omega arith) ∙ in_f j (omega arith)) in
    subst (P j) (sym at) (front-each first zeroth one ones j low))
    (λ (high : length first + 2 ≤ j).
    ⊎_elim
    (λ (here : j ≡ length first + 2).
    let at : slice_index (numbered first second) j ≡ 0 = in_h j (omega arith)
    ∙ (in_g j (omega arith) ∙ index-last f (omega arith)) in
    subst (P j) (sym at) (subst (λ k. P k 0) (sym here) start))
    (λ (not_start : j ≢ length first + 2).
    ⊎_elim
    (λ (here : j ≡ length first + 3).
    let at : slice_index (numbered first second) j ≡ 0 = in_h j (omega arith) ∙ index-last g (omega arith) in
    subst (P j) (sym at) (subst (λ k. P k 0) (sym here) next))
    (λ (not_next : j ≢ length first + 3).
    let k = j - length h in
    let back : length h + k ≡ j = omega arith in
    let at : slice_index (numbered first second) j ≡ slice_index second k =
    ap (slice_index (numbered first second)) (sym back) ∙ get_or-append-add h second k 0 in
    subst (P j) (sym at) (twos j (slice_index second k) (omega arith) (Contains-get_or second k 0 (omega arith))))
    (cases_eq j (length first + 3)))
    (cases_eq j (length first + 2)))
    (cases_lt j (length first + 2))

-- both starts' places hold the trie's start
pub numbered-starts : (first second : List ℕ)
    → (slice_index (numbered first second) (length first + 2) ≡ 0)
    × (slice_index (numbered first second) (length first + 3) ≡ 0)
numbered-starts first second =
    let f = 0 ∷ (0 ∷ first) in
    let g = f ++ 0 ∷ [] in
    let h = g ++ 0 ∷ [] in
    let s = length first + 2 in
    let n = length first + 3 in
    let g_len = length-append f (0 ∷ []) in
    let h_len = length-append g (0 ∷ []) in (
      get_or_append_left h second 0 s (omega arith)
          ∙ (get_or_append_left g (0 ∷ []) 0 s (omega arith) ∙ index-last f (omega arith)),
      get_or_append_left h second 0 n (omega arith) ∙ index-last g (omega arith),
    )

-- each element of the first list has a place before the starts
pub numbered-first : (first second : List ℕ) (x : ℕ) → Contains first x
    → (j : ℕ) × (1 < j) × (j < length (numbered first second)) × (slice_index (numbered first second) j ≡ x)
numbered-first first second x c =
    let f = 0 ∷ (0 ∷ first) in
    let g = f ++ 0 ∷ [] in
    let h = g ++ 0 ∷ [] in
    let j = suc (suc c.0) in
    let g_len = length-append f (0 ∷ []) in
    let h_len = length-append g (0 ∷ []) in
    let low : j < length f = omega (arith, c.1) in
    let there : slice_index first c.0 ≡ x = get_or_default first c.0 0 x c.1 ∙ c.2 in (
      j,
      omega arith,
      omega (arith, length-append h second),
      get_or_append_left h second 0 j (omega arith)
          ∙ (get_or_append_left g (0 ∷ []) 0 j (omega arith) ∙ (get_or_append_left f (0 ∷ []) 0 j low ∙ there)),
    )

-- each element of the second list has a place after the starts
pub numbered-second : (first second : List ℕ) (x : ℕ) → Contains second x
    → (j : ℕ) × (1 < j) × (j < length (numbered first second)) × (slice_index (numbered first second) j ≡ x)
numbered-second first second x c =
    let f = 0 ∷ (0 ∷ first) in
    let g = f ++ 0 ∷ [] in
    let h = g ++ 0 ∷ [] in
    let g_len = length-append f (0 ∷ []) in
    let h_len = length-append g (0 ∷ []) in (
      length h + c.0,
      omega (arith, c.1),
      omega (arith, c.1, length-append h second),
      get_or-append-add h second c.0 0 ∙ (get_or_default second c.0 0 x c.1 ∙ c.2),
    )

-- each trie state is chosen as one at which a pattern matches, or as one at which none does
chosen-cases : (ranges : List Range) (states : List ℕ) (i : ℕ) → Contains states i
    → Contains (chosen ranges true states) i ⊎ Contains (chosen ranges false states) i
chosen-cases ranges states i c =
    ⊎_elim
    (λ (some : 0 < range_len ranges i).
    inl (Contains-filter (is_chosen ranges true) states c (grind (arith, nat_tests))))
    (λ (none : range_len ranges i ≤ 0).
    inr (Contains-filter (is_chosen ranges false) states c (grind (arith, nat_tests))))
    (cases_lt 0 (range_len ranges i))

-- the slice after the first element is the rest of the list
pub slice-rest : (order : List ℕ) → take (length order - 1) (drop 1 order) ≡ drop 1 order
slice-rest order = take_all (length order - 1) (drop 1 order) (omega (arith, length-drop 1 order))

pub listed-rest : {ranges : List Range} (order : List ℕ) {places : Listed}
    → AreListed ranges (take (length order - 1) (drop 1 order)) places → AreListed ranges (drop 1 order) places
listed-rest {ranges} order {places} listed = subst (λ xs. AreListed ranges xs places) (slice-rest order) listed

-- the places of the states
pub places-listed : {states : List State} {ranges : List Range} {order : List ℕ} {places : Listed} → IsTree states
    → IsBreadthFirst states order → AreListed ranges (drop 1 order) places
    → ArePlaces (length states) places.at.items places.start
places-listed {states} {ranges} {order} {places} tree b listed =
    let rest = drop 1 order in
    let first = chosen ranges true rest in
    let second = chosen ranges false rest in
    let at = numbered first second in
    let some : 0 < length states = tree.start.0 in
    let both = length-filter_both (is_chosen ranges true) (is_chosen ranges false) (λ _. refl) rest in
    let len = length-numbered first second in
    let among = order-rest tree b in
    let in_first : (x : ℕ) → Contains first x
    → (0 < x) × (x < length states) = λ x c. (among x).0 (Contains-from_filter (is_chosen ranges true) rest c).0 in
    let in_second : (x : ℕ) → Contains second x
    → (0 < x) × (x < length states) = λ x c. (among x).0 (Contains-from_filter (is_chosen ranges false) rest c).0 in
    let made : ArePlaces (length states) at (length first + 2) = record {
      counted = omega (arith, length-drop 1 order, order-short b, order-long b, (order-start tree b).0);
      starts = (
        omega arith,
        omega arith,
        (numbered-starts first second).0,
        let e : length first + 2 + 1 ≡ length first + 3 = omega arith in
            ap (slice_index at) e ∙ (numbered-starts first second).1,
      );
      others = λ j past within none.
          numbered-each first second (λ k x. 1 < k → x ≡ 0 → (k ≡ length first + 2) ⊎ (k ≡ length first + 2 + 1))
          (λ p e. absurd (omega arith))
          (λ p e. absurd (omega arith))
          (λ k x low high c p e. absurd (omega (arith, (in_first x c).0)))
          (λ p e. inl refl)
          (λ p e. inr (omega arith))
          (λ k x low c p e. absurd (omega (arith, (in_second x c).0)))
          j within past none;
      within = λ j within.
          numbered-each first second (λ k x. x < length states)
          some some (λ k x low high c. (in_first x c).1) some some (λ k x low c. (in_second x c).1) j within;
      all = λ i within.
          ⊎_elim
          (λ (none : i ≡ 0). (length first + 2, omega arith, omega arith, (numbered-starts first second).0 ∙ sym none))
          (λ (ne : i ≢ 0).
          ⊎_elim
          (λ c. numbered-first first second i c)
          (λ c. numbered-second first second i c)
          (chosen-cases ranges rest i ((among i).1 (omega arith) within)))
          (cases_eq i 0);
    } in
    subst (λ xs. ArePlaces (length states) xs places.start) (sym listed.at)
    (subst (ArePlaces (length states) at) (sym listed.start) made)

-- the last state at which some pattern matches
pub last-listed : {ranges : List Range} (order : List ℕ) {places : Listed} {max : ℕ}
    → AreListed ranges (drop 1 order) places → (is_chosen ranges true 0 ≡ true → max ≡ places.start + 1)
    → (is_chosen ranges true 0 ≡ false → max + 1 ≡ places.start) → IsLastMatch ranges places.at.items places.start max
last-listed {ranges} order {places} {max} listed matching none_there =
    let rest = drop 1 order in
    let first = chosen ranges true rest in
    let second = chosen ranges false rest in
    let at = numbered first second in
    let IsRight : ℕ → ℕ → Type 0 = λ k x. 1 < k → (0 < range_len ranges x) ↔ (k ≤ max) in
    let cases : ((0 < range_len ranges 0) × (max ≡ length first + 3))
    ⊎ ((range_len ranges 0 ≤ 0) × (max + 1 ≡ length first + 2)) =
    ⊎_elim
    (λ (some : 0 < range_len ranges 0). inl (some, omega (arith, matching (grind (arith, nat_tests)), listed.start)))
    (λ (none : range_len ranges 0 ≤ 0).
    inr (none, none_there (grind (arith, nat_tests)) ∙ (listed.start ∙ omega arith)))
    (cases_lt 0 (range_len ranges 0)) in
    let bounds : (length first + 2 ≤ max + 1)
    × (max ≤ length first + 3) =
    ⊎_elim (λ (some : (0 < range_len ranges 0) × (max ≡ length first + 3)).
    (omega (arith, some.1), omega (arith, some.1)))
    (λ (none : (range_len ranges 0 ≤ 0) × (max + 1 ≡ length first + 2)). (omega (arith, none.1), omega (arith, none.1)))
    cases in
    let at_start : (k : ℕ) → length first + 2 ≤ k → k ≤ length first + 3 → IsRight k 0 =
    λ k low high past.
    ⊎_elim
    (λ (some : (0 < range_len ranges 0) × (max ≡ length first + 3)). ((λ _. omega (arith, some.1)), (λ _. some.0)))
    (λ (none : (range_len ranges 0 ≤ 0) × (max + 1 ≡ length first + 2)).
    ((λ more. absurd (omega (arith, none.0))), (λ le. absurd (omega (arith, none.1)))))
    cases in
    record {
      some = λ j past within.
          let len : length places.at.items ≡ length at = ap length listed.at in
          let here : slice_index places.at.items j ≡ slice_index at j = ap (λ xs. slice_index xs j) listed.at in
          let right : IsRight j (slice_index at j) = numbered-each first second IsRight
          (λ p. absurd (omega arith))
          (λ p. absurd (omega arith))
          (λ k x low high c p.
          let passes = (Contains-from_filter (is_chosen ranges true) rest c).1 in
          let more : 0 < range_len ranges x = grind (arith, nat_tests) in
          ((λ _. omega (arith, bounds.0)), (λ _. more)))
          (at_start (length first + 2) (omega arith) (omega arith))
          (at_start (length first + 3) (omega arith) (omega arith))
          (λ k x low c p.
          let passes = (Contains-from_filter (is_chosen ranges false) rest c).1 in
          let none : range_len ranges x ≤ 0 = grind (arith, nat_tests) in
          ((λ more. absurd (omega arith)), (λ le. absurd (omega (arith, bounds.1)))))
          j (omega arith) in
          subst (λ x. (0 < range_len ranges x) ↔ (j ≤ max)) (sym here) (right past);
      greatest =
          ⊎_elim (λ (some : (0 < range_len ranges 0) × (max ≡ length first + 3)).
          inr (omega (arith, some.1, listed.start)))
          (λ (none : (range_len ranges 0 ≤ 0) × (max + 1 ≡ length first + 2)).
          inl (omega (arith, none.1, listed.start)))
          cases;
    }

-- the numbers of the trie states
pub numbers-first : {states : ℕ} {at of : List ℕ} {start : ℕ} → 0 < states → ArePlaces states at start
    → length of ≡ states → AreFirstNumbers at 2 of → AreTrieNumbers states at of start
numbers-first {at} {of} {start} some p counted f =
    record {
      counted = counted;
      numbers = λ i within.
          let h = p.all i within in
          let e = h.3 in
          let back : slice_index at (slice_index of i) ≡ i = ap (λ x. slice_index at (slice_index of x)) (sym e)
          ∙ (f.back h.0 (omega (arith, h.1)) h.2 ∙ e) in
          let l = f.least h.0 (omega (arith, h.1)) h.2 in
          let same : slice_index of (slice_index at h.0) ≡ slice_index of i = ap (slice_index of) e in
          let z = f.least start (omega (arith, p.starts.0)) (omega (arith, p.starts.1)) in
          let of_start : slice_index of (slice_index at start) ≡ slice_index of 0 = ap (slice_index of) p.starts.2 in (
            omega (arith, l.0),
            omega (arith, l.1, h.2),
            (λ is_next.
                let none : i ≡ 0 = sym back ∙ (ap (slice_index at) is_next ∙ p.starts.3) in
                let is_start : slice_index of i ≡ slice_index of 0 = ap (slice_index of) none in
                omega (arith, z.1)),
            back,
          );
    }

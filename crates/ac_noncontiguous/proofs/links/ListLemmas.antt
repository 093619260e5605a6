-- The lists of patterns of a trie's states. No pattern is twice in a list, and the lists are those of the definitions.
use Rattle.std.proofs.Common.{◌≡◌, ◌≢◌, ℕ, suc, ◌+◌, ◌-◌, ◌<◌, ◌≤◌, List, [], ◌∷◌, ◌++◌, length, take, drop, Option, Some, None, refl, sym, ap, subst, ◌∙◌, inl, inr, ⊎_elim, arith, get_or, slice_get, slice_index, slice_set, length-append, length-set, length-drop, get_or-set_same, get_or-set_other, append-nil, append_assoc, replicate}
use Rattle.std.specs.List.{Contains, slice_range}
use Rattle.std.proofs.Math.Seq.{drop-append_seam}
use Rattle.std.proofs.lemmas.Bool.{cases_lt, cases_eq}
use Rattle.std.proofs.lemmas.List.{get_or_read, take_all, take-append-le, drop-append-le, take-append-drop, length-take-le, length-replicate, get_or-replicate}
use Rattle.std.proofs.lemmas.List.Elements.{Contains-append_left, Contains-append_right, Contains-append_cases}
use Rattle.std.proofs.lemmas.Option.{slice_get_within, slice_get-get_or, get_or_from_slice_get}
use Rattle.ac_input.proofs.lemmas.OrderLemmas.{slice_range-length}
use Rattle.ac_input.proofs.lemmas.OnceLemmas.{rising-distinct, distinct-append, distinct-few}
use Rattle.ac_input.proofs.lemmas.ContainsLemmas.{Contains-nil}
use Rattle.ac_input.specs.Dictionary.{Dictionary}
use Rattle.ac_input.specs.Failure.{AreRising, AreOwn, IsList}
use Rattle.ac_input.proofs.lemmas.LeadsLemmas.{list-of_failure, list-alone}
use Rattle.ac_noncontiguous.specs.declared.links.Range.{Range}
use Rattle.ac_noncontiguous.specs.declared.trie.State.{State}
use Rattle.ac_noncontiguous.specs.Trie.Tree.{depth, text}
use Rattle.ac_noncontiguous.specs.Links.Own.{IsOwnList}
use Rattle.ac_noncontiguous.specs.Links.Order.{IsBreadthFirst}
use Rattle.ac_noncontiguous.specs.Links.{no_range, in_range, AreFails, AreRanges}
use Rattle.ac_noncontiguous.specs.Links.Lists.{EndAbove, IsRest, IsListed}
use Rattle.std.specs.Prelude.{slice_index_or}
use Rattle.ac_noncontiguous.specs.Links.Failures.{AreShallower}
use Rattle.ac_noncontiguous.proofs.trie.BridgeLemmas.{Stands, ends-own, own-ends}
use Rattle.ac_noncontiguous.proofs.trie.FailsLemmas.{place-of, shallower-before, order-apart}

-- Each range lies within the list, and its patterns end in the state or in a shallower one.
pub record AreRoom (states : List State) (ends : List (Option ℕ)) (ranges : List Range)
    (matches : List ℕ) : Type 0 where
  pub counted : length ranges ≡ length states
  pub inside : (i : ℕ) → i < length states
      → ((slice_index_or ranges i no_range).from + (slice_index_or ranges i no_range).len ≤ length matches)
  pub above : (i : ℕ) → i < length states
      → EndAbove states ends (depth states i + 1) (in_range matches (slice_index_or ranges i no_range))
  pub known : (n : ℕ) → Contains matches n → (e : ℕ) × (slice_get ends n ≡ Some (Some e))

-- ---- own patterns

-- a list whose every element is less than each later one is rising
rising-from : (ns : List ℕ) → ((j k : ℕ) → j < k → k < length ns → slice_index ns j < slice_index ns k) → AreRising ns
rising-from [] h = tt
rising-from (n ∷ ns) h = (
  λ later c.
      let less : n < slice_index ns c.0 = h 0 (suc c.0) (omega arith) (omega (arith, c.1)) in
      omega (arith, less, get_or_read ns c.0 later c.1 (sym c.2) 0),
  rising-from ns (λ j k lt within. h (suc j) (suc k) (omega arith) (omega arith)),
)

-- the patterns in a state's own list end in the state
own-ended : {ends : List (Option ℕ)} {i n : ℕ} {own : List ℕ} → IsOwnList ends i own → Contains own n
    → (slice_get ends n ≡ Some (Some i))
own-ended {ends} {i} {n} {own} are c =
    subst (λ n. slice_get ends n ≡ Some (Some i)) (sym (get_or_read own c.0 n c.1 (sym c.2) 0)) (are.within c.0 c.1)

-- the patterns that end in a state are those that are equal to its text
own-are : {m : Dictionary} {states : List State} {ends : List (Option ℕ)} → Stands m states ends
    → {i : ℕ} {own : List ℕ} → i < length states → IsOwnList ends i own → AreOwn m (text states i) own
own-are s {own} within are =
    (rising-from own are.rising, λ n. ((λ c. ends-own s (own-ended are c)), (λ o. are.all n (own-ends s within o))))

-- ---- each pattern once

-- a pattern ends in one state
one-end : (ends : List (Option ℕ)) (i e n : ℕ) → (slice_get ends n ≡ Some (Some i)) → (slice_get ends n ≡ Some (Some e))
    → i ≡ e
one-end ends i e n a b = let two : Some (Some i) ≡ Some (Some e) = sym a ∙ b in cc

-- a state's own patterns, followed by patterns that end in shallower states, end in the state or above it
pub own-above : {states : List State} {ends : List (Option ℕ)} {i : ℕ} {own rest : List ℕ} → IsOwnList ends i own
    → EndAbove states ends (depth states i) rest → EndAbove states ends (depth states i + 1) (own ++ rest)
own-above {states} {ends} {i} {own} {rest} are above =
    record {
      distinct = distinct-append own rest (rising-distinct own (rising-from own are.rising)) above.distinct
          (λ n c d.
          let e = above.ended n d in
          omega (arith, e.2, ap (depth states) (one-end ends i e.0 n (own-ended are c) e.1)));
      ended = λ n c.
          ⊎_elim
          (λ first. (i, own-ended are first, omega arith))
          (λ second. let e = above.ended n second in (e.0, e.1, omega (arith, e.2)))
          (Contains-append_cases own rest n c);
    }

-- a list without repeats has at most as many entries as there are patterns
pub above-few : {states : List State} {ends : List (Option ℕ)} {deep : ℕ} {list : List ℕ}
    → EndAbove states ends deep list → length list ≤ length ends
above-few {ends} {list} above =
    distinct-few list above.distinct (λ n c. let e = above.ended n c in slice_get_within ends n (Some e.0) e.1)

-- a state's own patterns and the rest are together at most as many as there are patterns
pub own-few : {states : List State} {ends : List (Option ℕ)} {i : ℕ} {own rest : List ℕ} → IsOwnList ends i own
    → EndAbove states ends (depth states i) rest → length own + length rest ≤ length ends
own-few {own} {rest} are above = omega (arith, length-append own rest, above-few (own-above are above))

-- ---- ranges

-- a range stays as the list grows
pub range-kept : (old more : List ℕ) (r : Range) → (r.from + r.len ≤ length old)
    → in_range (old ++ more) r ≡ in_range old r
range-kept old more r inside =
    ap (take r.len) (drop-append-le r.from old more (omega arith))
    ∙ take-append-le r.len (drop r.from old) more (omega (arith, length-drop r.from old))

-- a pattern in a range is in the list
range-among : (xs : List ℕ) (r : Range) (n : ℕ) → Contains (in_range xs r) n → Contains xs n
range-among xs r n c =
    let d = drop r.from xs in
    let inner = subst (λ ys. Contains ys n) (take-append-drop r.len d)
    (Contains-append_left (take r.len d) (drop r.len d) n c) in
    subst (λ ys. Contains ys n) (take-append-drop r.from xs) (Contains-append_right (take r.from xs) d n inner)

-- a range has as many patterns as it says
range-length : (xs : List ℕ) (r : Range) → (r.from + r.len ≤ length xs) → length (in_range xs r) ≡ r.len
range-length xs r inside = length-take-le r.len (drop r.from xs) (omega (arith, length-drop r.from xs))

-- a state without patterns of its own shares the rest's range
pub listed-shared : {ends : List (Option ℕ)} {i : ℕ} {rest : Range} {old new own : List ℕ} → IsOwnList ends i own
    → new ≡ old ++ own → length new ≡ length old → (rest.from + rest.len ≤ length old)
    → IsListed ends i rest rest old new
listed-shared {rest} {old} {new} {own} are pushed same inside =
    let none : own ≡ [] = empty own (omega (arith, ap length pushed, length-append old own)) in
    let is : new ≡ old = pushed ∙ (ap (λ xs. old ++ xs) none ∙ append-nil old) in
    record {
      own = own;
      are_own = are;
      list = ap (λ xs. in_range xs rest) is ∙ ap (λ xs. xs ++ in_range old rest) (sym none);
      more = own;
      kept = pushed;
      inside = omega (arith, same);
      known = λ n c. inl (subst (λ xs. Contains xs n) is c);
    }
  where
    empty : (xs : List ℕ) → length xs ≡ 0 → xs ≡ []
    empty [] e = refl
    empty (x ∷ xs) e = absurd (omega arith)

-- the list of a state is its own patterns and a copy of the rest
pub listed-copied : {ends : List (Option ℕ)} {i : ℕ} {rest range : Range} {old mid new own : List ℕ}
    → IsOwnList ends i own → mid ≡ old ++ own → new ≡ mid ++ slice_range mid rest.from (rest.from + rest.len)
    → (rest.from + rest.len ≤ length old) → range.from ≡ length old → range.len ≡ length new - length old
    → IsListed ends i rest range old new
listed-copied {rest} {range} {old} {mid} {new} {own} are pushed copied inside from_is len_is =
    let few : rest.from + rest.len - rest.from ≡ rest.len = omega arith in
    let part : slice_range mid rest.from (rest.from + rest.len) ≡ in_range old rest =
    ap (λ k. take k (drop rest.from mid)) few ∙ (ap (λ xs. in_range xs rest) pushed ∙ range-kept old own rest inside) in
    let more = own ++ in_range old rest in
    let kept : new ≡ old ++ more = copied
    ∙ (ap (λ xs. mid ++ xs) part
    ∙ (ap (λ xs. xs ++ in_range old rest) pushed ∙ append_assoc old own (in_range old rest))) in
    let len : length new ≡ length old + length more = ap length kept ∙ length-append old more in
    let back : drop range.from new ≡ more = ap (λ k. drop k new) from_is
    ∙ (ap (drop (length old)) kept ∙ drop-append_seam old more) in
    record {
      own = own;
      are_own = are;
      list = ap (take range.len) back ∙ take_all range.len more (omega arith);
      more = more;
      kept = kept;
      inside = omega arith;
      known = λ n c.
          ⊎_elim
          (λ first. inl first)
          (λ second.
          ⊎_elim
          (λ here. inr (own-ended are here))
          (λ there. inl (range-among old rest n there))
          (Contains-append_cases own (in_range old rest) n second))
          (Contains-append_cases old more n (subst (λ xs. Contains xs n) kept c));
    }

-- at first nothing is listed
pub room-none : {states : List State} {ends : List (Option ℕ)} {len : ℕ} {ranges : List Range} {matches : List ℕ}
    → len ≡ length states → ranges ≡ replicate len no_range → matches ≡ [] → AreRoom states ends ranges matches
room-none {states} {ends} {len} {ranges} all filled empty =
    let none : (i : ℕ) → i < length states → slice_index_or ranges i no_range ≡ no_range =
    λ i within. ap (λ xs. slice_index_or xs i no_range) filled
    ∙ get_or-replicate len i no_range no_range (omega arith) in
    subst (AreRoom states ends ranges) (sym empty)
    (record {
      counted = ap length filled ∙ (length-replicate len no_range ∙ all);
      inside =
          λ i within. subst (λ range. range.from + range.len ≤ length {A = ℕ} []) (sym (none i within)) (omega arith);
      above = λ i within. subst (λ r. EndAbove states ends (depth states i + 1) (in_range [] r)) (sym (none i within))
          (record { distinct = tt; ended = λ n c. absurd (Contains-nil c) });
      known = λ n c. absurd (Contains-nil c);
    })

-- the rest of a state's list is the list of its failure, whose patterns end in shallower states
pub rest-above : {states : List State} {ends fails : List (Option ℕ)} {ranges : List Range} {matches : List ℕ} {i : ℕ}
    {rest : Range} → AreShallower states fails → AreRoom states ends ranges matches → i < length states
    → IsRest fails ranges i rest → (rest.from + rest.len ≤ length matches)
    × EndAbove states ends (depth states i) (in_range matches rest)
rest-above {states} {ends} {fails} {matches} {i} {rest} s room within is =
    by (get_or fails i None) (slice_get-get_or fails i None (omega (arith, s.counted)))
  where
    by : (r : Option ℕ) → slice_get fails i ≡ Some r
        → (rest.from + rest.len ≤ length matches) × EndAbove states ends (depth states i) (in_range matches rest)
    by (Some f) given =
        let h = s.shallower i f given in
        let a = room.above f h.0 in
        subst (λ r. (r.from + r.len ≤ length matches) × EndAbove states ends (depth states i) (in_range matches r))
        (sym (is.some f given)) (
          room.inside f h.0,
          record { distinct = a.distinct; ended = λ n c. let e = a.ended n c in (e.0, e.1, omega (arith, e.2, h.1)) },
        )
    by None given =
        subst (λ r. (r.from + r.len ≤ length matches) × EndAbove states ends (depth states i) (in_range matches r))
        (sym (is.none given))
        (omega arith, record { distinct = tt; ended = λ n c. absurd (Contains-nil c) })

-- the range of another state is unchanged when one is set
range-other : (ranges : List Range) (matches : List ℕ) {new : List ℕ} (more : List ℕ) {i j : ℕ} (range : Range) → j ≢ i
    → new ≡ matches ++ more
    → ((slice_index_or ranges j no_range).from + (slice_index_or ranges j no_range).len ≤ length matches)
    → (slice_index_or (slice_set ranges i range) j no_range ≡ slice_index_or ranges j no_range)
    × (in_range new (slice_index_or (slice_set ranges i range) j no_range)
    ≡ in_range matches (slice_index_or ranges j no_range))
range-other ranges matches {new} more {i} {j} range ne kept inside =
    let same : slice_index_or (slice_set ranges i range) j no_range ≡ slice_index_or ranges j no_range =
    get_or-set_other ranges i j range no_range ne in (
      same,
      ap (in_range new) same
          ∙ (ap (λ xs. in_range xs (slice_index_or ranges j no_range)) kept
          ∙ range-kept matches more (slice_index_or ranges j no_range) inside),
    )

-- one more list
pub room-more : {states : List State} {ends : List (Option ℕ)} {ranges : List Range} {matches new : List ℕ} {i : ℕ}
    {rest range : Range} → AreRoom states ends ranges matches → i < length states
    → EndAbove states ends (depth states i) (in_range matches rest) → IsListed ends i rest range matches new
    → AreRoom states ends (slice_set ranges i range) new
room-more {states} {ends} {ranges} {matches} {new} {i} {range} room within above listed =
    let here : slice_index_or (slice_set ranges i range) i no_range ≡ range =
    get_or-set_same ranges i range no_range (omega (arith, room.counted)) in
    record {
      counted = length-set ranges i range ∙ room.counted;
      inside = λ j j_in.
          ⊎_elim
          (λ (same : j ≡ i). subst (λ range. range.from + range.len ≤ length new)
          (sym (ap (λ i′. slice_index_or (slice_set ranges i range) i′ no_range) same ∙ here)) listed.inside)
          (λ (ne : j ≢ i).
          let o = range-other ranges matches listed.more range ne listed.kept (room.inside j j_in) in
          subst (λ range. range.from + range.len ≤ length new) (sym o.0)
          (omega (arith, room.inside j j_in, ap length listed.kept, length-append matches listed.more)))
          (cases_eq j i);
      above = λ j j_in.
          ⊎_elim
          (λ (same : j ≡ i).
          subst (λ k. EndAbove states ends (depth states k + 1)
          (in_range new (slice_index_or (slice_set ranges i range) k no_range))) (sym same)
          (subst (EndAbove states ends (depth states i + 1)) (sym (ap (in_range new) here ∙ listed.list))
          (own-above listed.are_own above)))
          (λ (ne : j ≢ i).
          let o = range-other ranges matches listed.more range ne listed.kept (room.inside j j_in) in
          subst (EndAbove states ends (depth states j + 1)) (sym o.1) (room.above j j_in))
          (cases_eq j i);
      known = λ n c. ⊎_elim (λ before. room.known n before) (λ ended. (i, ended)) (listed.known n c);
    }

-- ---- the lists so far

-- the first n states of the order have their lists
abbrev pub AreFirstLists : Dictionary → List State → List Range → List ℕ → List ℕ → ℕ → Type 0
AreFirstLists m states ranges matches order most =
    (k : ℕ) → k < most → IsList m (text states (slice_index order k))
    (in_range matches (slice_index_or ranges (slice_index order k) no_range))

-- the list of a state is that of the definitions
list-of : {m : Dictionary} {states : List State} {ends fails : List (Option ℕ)} {ranges : List Range} (matches : List ℕ)
    {order : List ℕ} {k i : ℕ} {rest : Range} {own : List ℕ} → Stands m states ends → AreFails m states fails
    → AreShallower states fails → IsBreadthFirst states order → k < length order → i ≡ slice_index order k
    → i < length states → IsRest fails ranges i rest → IsOwnList ends i own
    → AreFirstLists m states ranges matches order k → IsList m (text states i) (own ++ in_range matches rest)
list-of {m} {states} {fails} {ranges} matches {i} {rest} {own} s leads shallower o k_in is within rest_is are known =
    by (get_or fails i None) (slice_get-get_or fails i None (omega (arith, shallower.counted)))
  where
    by : (r : Option ℕ) → slice_get fails i ≡ Some r → IsList m (text states i) (own ++ in_range matches rest)
    by (Some f) given =
        let h = shallower.shallower i f given in
        let p = place-of o h.0 in
        let before = shallower-before o p.1 k_in (omega (arith, h.1, ap (depth states) p.2, ap (depth states) is)) in
        let above = subst (λ j. IsList m (text states j) (in_range matches (slice_index_or ranges j no_range))) p.2
        (known p.0 before) in
        subst (λ r. IsList m (text states i) (own ++ in_range matches r)) (sym (rest_is.some f given))
        (list-of_failure own (own-are s within are) (leads.leads i (Some f) given) above)
    by None given =
        subst (λ r. IsList m (text states i) (own ++ in_range matches r)) (sym (rest_is.none given))
        (subst (IsList m (text states i)) (sym (append-nil own))
        (list-alone (own-are s within are) (leads.leads i None given)))

-- one more list
pub lists-more : {m : Dictionary} {states : List State} {ends fails : List (Option ℕ)} {ranges : List Range}
    {matches new order : List ℕ} {k i : ℕ} {rest range : Range} → Stands m states ends → AreFails m states fails
    → AreShallower states fails → IsBreadthFirst states order → k < length order → i ≡ slice_index order k
    → AreRoom states ends ranges matches → IsRest fails ranges i rest → IsListed ends i rest range matches new
    → AreFirstLists m states ranges matches order k
    → AreFirstLists m states (slice_set ranges i range) new order (k + 1)
lists-more {m} {states} {ranges} {matches} {new} {order} {k} {i} {range} s leads shallower o k_in is room rest_is
    listed known j lt =
    let within : i < length states = omega (arith, is, o.within k k_in) in
    ⊎_elim
    (λ (before : j < k).
    let ne : slice_index order j ≢ i = λ same. order-apart o before k_in (same ∙ is) in
    let other = range-other ranges matches listed.more range ne listed.kept
    (room.inside (slice_index order j) (o.within j (omega arith))) in
    subst (IsList m (text states (slice_index order j))) (sym other.1) (known j before))
    (λ (ge : k ≤ j).
    let here : slice_index order j ≡ i = ap (slice_index order) (let same : j ≡ k = omega arith in same) ∙ sym is in
    let set : slice_index_or (slice_set ranges i range) i no_range ≡ range =
    get_or-set_same ranges i range no_range (omega (arith, room.counted)) in
    subst (λ z. IsList m (text states z) (in_range new (slice_index_or (slice_set ranges i range) z no_range)))
    (sym here)
    (subst (IsList m (text states i)) (sym (ap (in_range new) set ∙ listed.list))
    (list-of matches s leads shallower o k_in is within rest_is listed.are_own known)))
    (cases_lt j k)

-- at the end of the order all lists are those of the definitions
pub lists-all : {m : Dictionary} {states : List State} {ends : List (Option ℕ)} {ranges : List Range}
    {matches order : List ℕ} {k : ℕ} → Stands m states ends → IsBreadthFirst states order → length order ≤ k
    → AreRoom states ends ranges matches → AreFirstLists m states ranges matches order k
    → AreRanges m states ranges matches
lists-all {m} {states} {ends} {ranges} {matches} s o past room known =
    record {
      counted = room.counted;
      within = room.inside;
      lists = λ i within.
          let p = place-of o within in
          subst (λ j. IsList m (text states j) (in_range matches (slice_index_or ranges j no_range))) p.2
          (known p.0 (omega (arith, p.1)));
      known = λ j within.
          let n = slice_index matches j in
          let e = room.known n (j, within, get_or_from_slice_get matches j n n (slice_get-get_or matches j 0 within)) in
          omega (arith, slice_get_within ends n (Some e.0) e.1, s.entered.counted);
    }

-- the number of a list's patterns is at most the number of patterns
pub list-fits : {states : List State} {ends : List (Option ℕ)} {i : ℕ} {own : List ℕ} (old : List ℕ) {mid new : List ℕ}
    (rest : Range) → IsOwnList ends i own → EndAbove states ends (depth states i) (in_range old rest) → mid ≡ old ++ own
    → new ≡ mid ++ slice_range mid rest.from (rest.from + rest.len) → (rest.from + rest.len ≤ length old)
    → length new - length old ≤ length ends
list-fits {own} old {mid} {new} rest are above pushed copied inside =
    let few = own-few are above in
    let mid_len : length mid ≡ length old + length own = ap length pushed ∙ length-append old own in
    let part = slice_range-length mid rest.from {b = rest.from + rest.len} (omega arith) (omega arith) in
    let new_len : length new ≡ length mid + length (slice_range mid rest.from (rest.from + rest.len)) = ap length copied
    ∙ length-append mid (slice_range mid rest.from (rest.from + rest.len)) in
    omega (arith, few, range-length old rest inside, mid_len, part, new_len)

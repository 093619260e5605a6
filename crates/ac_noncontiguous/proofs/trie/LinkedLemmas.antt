-- A state that is pushed and linked in is one more state of the trie.
use Rattle.std.proofs.Common.{◌≡◌, ◌≢◌, ℕ, zero, suc, ◌+◌, ◌<◌, ◌≤◌, false, List, [], ◌∷◌, ◌++◌, length, refl, sym, ap, subst, ◌∙◌, ⊎_elim, arith, slice_index_or, slice_set, length-append, length-set, get_or-set_same, get_or-set_other}
use Rattle.std.proofs.lemmas.Bool.{cases_eq}
use Rattle.std.proofs.lemmas.List.{get_or_append_left, get_or-append-add, get_or_read}
use Rattle.ac_input.specs.Number.{greatest_number}
use Rattle.ac_noncontiguous.specs.declared.trie.State.{State}
use Rattle.ac_noncontiguous.specs.Trie.Tree.{IsTree, parent, byte, child, sibling, depth, is_match, state_at, no_state}
use Rattle.ac_noncontiguous.proofs.trie.GrownLemmas.{IsGrown}

-- pushing a state leaves the ones before it, and puts it last
pub pushed-before : (old : List State) (s : State) (i : ℕ) → i < length old
    → state_at (old ++ s ∷ []) i ≡ state_at old i
pushed-before old s i within = get_or_append_left old (s ∷ []) no_state i within

pub pushed-last : (old : List State) (s : State) → state_at (old ++ s ∷ []) (length old) ≡ s
pushed-last old s = let e : length old + 0 ≡ length old = omega arith in
    subst (λ n. state_at (old ++ s ∷ []) n ≡ s) e (get_or-append-add old (s ∷ []) 0 no_state)

-- the state that was set is the new one, and all others are unchanged
pub set-here : (xs : List State) {j : ℕ} {r : State} → j < length xs → state_at (slice_set xs j r) j ≡ r
set-here xs {j} {r} within = get_or-set_same xs j r no_state within

pub set-there : (xs : List State) {j i : ℕ} (r : State) → i ≢ j → state_at (slice_set xs j r) i ≡ state_at xs i
set-there xs {j} {i} r ne = get_or-set_other xs j i r no_state ne

-- setting a state leaves a column unchanged if the new state has the old one's value in it
pub column-set : {C : Type 0} → (f : State → C) (xs : List State) {j : ℕ} {r : State} → j < length xs
    → f r ≡ f (state_at xs j) → (i : ℕ) → f (state_at (slice_set xs j r) i) ≡ f (state_at xs i)
column-set f xs {j} {r} within same i =
    ⊎_elim
    (λ (e : i ≡ j). subst (λ k. f (state_at (slice_set xs j r) k) ≡ f (state_at xs k)) (sym e)
    (ap f (set-here xs within) ∙ same))
    (λ (ne : i ≢ j). ap f (set-there xs r ne))
    (cases_eq i j)

-- the added state
abbrev pub fresh : ℕ → ℕ → ℕ → ℕ → State
fresh of low at deep = record { parent = of; child = 0; sibling = at; depth = deep; byte = low; is_match = false }

-- A state was added, and a link of another one was set. All other columns are unchanged, or are those of the added
-- state.
record IsRelinked (old xs new : List State) (y : State) (of low at deep j : ℕ) : Type 0 where
  inside : j < length xs
  was : y ≡ state_at xs j
  older : (i : ℕ) → i < length old → state_at xs i ≡ state_at old i
  after : state_at xs (length old) ≡ fresh of low at deep
  len : length new ≡ length old + 1
  same : (i : ℕ) → i < length old
      → (parent new i ≡ parent old i) × (byte new i ≡ byte old i) × (depth new i ≡ depth old i)
      × (is_match new i ≡ is_match old i)
  added : (parent new (length old) ≡ of) × (byte new (length old) ≡ low) × (depth new (length old) ≡ depth old of + 1)
      × (is_match new (length old) ≡ false)

relinked : {old xs : List State} {y : State} (r : State) {of low at deep j : ℕ} → xs ≡ old ++ fresh of low at deep ∷ []
    → deep ≡ depth old of + 1 → j < length old → y ≡ slice_index_or xs j y → r.parent ≡ y.parent → r.byte ≡ y.byte
    → r.depth ≡ y.depth → r.is_match ≡ y.is_match → IsRelinked old xs (slice_set xs j r) y of low at deep j
relinked {old} {xs} {y} r {of} {low} {at} {deep} {j} pushed deeper j_old read parent_is byte_is depth_is mark_is =
    let s : State = fresh of low at deep in
    let len : length xs ≡ length old + 1 = ap length pushed ∙ length-append old (s ∷ []) in
    let j_in : j < length xs = omega arith in
    let now : y ≡ state_at xs j = get_or_read xs j y j_in read no_state in
    let before : (i : ℕ) → i < length old
    → state_at xs i ≡ state_at old i = λ i lt. ap (λ zs. state_at zs i) pushed ∙ pushed-before old s i lt in
    let last : state_at xs (length old) ≡ s = ap (λ zs. state_at zs (length old)) pushed ∙ pushed-last old s in
    let parents = column-set (λ (z : State). z.parent) xs j_in (parent_is ∙ ap (λ z. z.parent) now) in
    let bytes = column-set (λ (z : State). z.byte) xs j_in (byte_is ∙ ap (λ z. z.byte) now) in
    let depths = column-set (λ (z : State). z.depth) xs j_in (depth_is ∙ ap (λ z. z.depth) now) in
    let marks = column-set (λ (z : State). z.is_match) xs j_in (mark_is ∙ ap (λ z. z.is_match) now) in
    record {
      inside = j_in;
      was = now;
      older = before;
      after = last;
      len = length-set xs j r ∙ len;
      same = λ i lt.
          let e = before i lt in (
            parents i ∙ ap (λ z. z.parent) e,
            bytes i ∙ ap (λ z. z.byte) e,
            depths i ∙ ap (λ z. z.depth) e,
            marks i ∙ ap (λ z. z.is_match) e,
          );
      added = (
        parents (length old) ∙ ap (λ z. z.parent) last,
        bytes (length old) ∙ ap (λ z. z.byte) last,
        depths (length old) ∙ (ap (λ z. z.depth) last ∙ deeper),
        marks (length old) ∙ ap (λ z. z.is_match) last,
      );
    }

-- linked in as the first child
pub linked-child : {old xs : List State} {y : State} {of low before at deep j id : ℕ} → of < length old → before ≡ 0
    → xs ≡ old ++ fresh of low at deep ∷ [] → deep ≡ depth old of + 1 → j ≡ of → id ≡ length old
    → y ≡ slice_index_or xs j y → IsGrown old (slice_set xs j (record y { child = id })) of low before at
linked-child {old} {xs} {y} {j} {id} within none pushed deeper here last read =
    let r : State = record y { child = id } in
    let k = relinked r pushed deeper (omega arith) read refl refl refl refl in
    let siblings = column-set (λ (z : State). z.sibling) xs k.inside (ap (λ z. z.sibling) k.was) in
    record {
      len = k.len;
      same = k.same;
      added = k.added;
      added_links = (
        ap (λ z. z.child) (set-there xs r (omega arith)) ∙ ap (λ z. z.child) k.after,
        siblings (length old) ∙ ap (λ z. z.sibling) k.after,
      );
      others = λ i lt ne. ap (λ z. z.child) (set-there xs r (omega arith)) ∙ ap (λ z. z.child) (k.older i lt);
      kept = λ some. absurd (omega arith);
      first = λ _. subst (λ k. child (slice_set xs j r) k ≡ length old) here
          (ap (λ z. z.child) (set-here xs k.inside) ∙ last);
      rest = λ i lt ne. siblings i ∙ ap (λ z. z.sibling) (k.older i lt);
      next = λ some. absurd (omega arith);
    }

-- linked in after a sibling
pub linked-sibling : {old xs : List State} {y : State} {of low before at deep j id : ℕ} → of < length old
    → before < length old → 0 < before → xs ≡ old ++ fresh of low at deep ∷ [] → deep ≡ depth old of + 1 → j ≡ before
    → id ≡ length old → y ≡ slice_index_or xs j y
    → IsGrown old (slice_set xs j (record y { sibling = id })) of low before at
linked-sibling {old} {xs} {y} {of} {j} {id} within before_in some pushed deeper here last read =
    let r : State = record y { sibling = id } in
    let k = relinked r pushed deeper (omega arith) read refl refl refl refl in
    let children = column-set (λ (z : State). z.child) xs k.inside (ap (λ z. z.child) k.was) in
    record {
      len = k.len;
      same = k.same;
      added = k.added;
      added_links = (
        children (length old) ∙ ap (λ z. z.child) k.after,
        ap (λ z. z.sibling) (set-there xs r (omega arith)) ∙ ap (λ z. z.sibling) k.after,
      );
      others = λ i lt ne. children i ∙ ap (λ z. z.child) (k.older i lt);
      kept = λ _. children of ∙ ap (λ z. z.child) (k.older of within);
      first = λ none. absurd (omega arith);
      rest = λ i lt ne. ap (λ z. z.sibling) (set-there xs r (omega arith)) ∙ ap (λ z. z.sibling) (k.older i lt);
      next = λ _. subst (λ k. sibling (slice_set xs j r) k ≡ length old) here
          (ap (λ z. z.sibling) (set-here xs k.inside) ∙ last);
    }

-- a state is no deeper than its number
pub depth-le : (states : List State) → IsTree states → (most : ℕ) {i : ℕ} → i ≤ most → i < length states
    → depth states i ≤ i
depth-le states tree zero {i} le within = let e : i ≡ 0 = omega arith in
    subst (λ k. depth states k ≤ k) (sym e) (omega (arith, tree.start.1))
depth-le states tree (suc most) {i} le within =
    ⊎_elim
    (λ (none : i ≡ 0). subst (λ k. depth states k ≤ k) (sym none) (omega (arith, tree.start.1)))
    (λ (ne : i ≢ 0).
    let p = tree.parents i (omega arith) within in
    let h = depth-le states tree most {i = parent states i} (omega (arith, p.0)) (omega (arith, p.0)) in
    omega (arith, p.0, p.1))
    (cases_eq i 0)

-- setting a state leaves their number within the limit
pub few-set : (xs : List State) (j : ℕ) (r : State) → length xs + 3 ≤ greatest_number + 1
    → length (slice_set xs j r) + 3 ≤ greatest_number + 1
few-set xs j r few = omega (arith, length-set xs j r)

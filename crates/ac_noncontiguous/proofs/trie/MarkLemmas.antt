-- A state that is made a match state.
use mathlib.Core.Path.{fun_ext}
use Rattle.std.proofs.Common.{◌≡◌, ℕ, ◌<◌, true, List, length, sym, ap, subst, arith, slice_index_or, slice_set, length-set}
use Rattle.std.proofs.lemmas.List.{get_or_read}
use Rattle.ac_noncontiguous.specs.declared.trie.State.{State}
use Rattle.ac_noncontiguous.specs.Trie.Tree.{HasLinks, IsTree, parent, byte, child, sibling, depth, is_match, state_at, no_state}
use Rattle.ac_noncontiguous.specs.Trie.Entering.{IsMarked}
use Rattle.ac_noncontiguous.proofs.trie.LinkedLemmas.{column-set, set-here, set-there}

-- a state, made a match state
abbrev pub as_match : State → State
as_match y = record y { is_match = true }

-- the links stay those of a trie
pub tree-marked : (xs : List State) (j : ℕ) (y : State) → j < length xs → y ≡ slice_index_or xs j y → IsTree xs
    → IsTree (slice_set xs j (as_match y))
tree-marked xs j y within read tree =
    let was : y ≡ state_at xs j = get_or_read xs j y within read no_state in
    let new = slice_set xs j (as_match y) in
    let same = λ (f : State → ℕ) (e : f (as_match y) ≡ f (state_at xs j)). fun_ext (column-set f xs within e) in
    let parents : parent xs ≡ parent new = sym (same (λ (z : State). z.parent) (ap (λ z. z.parent) was)) in
    let bytes : byte xs ≡ byte new = sym (same (λ (z : State). z.byte) (ap (λ z. z.byte) was)) in
    let children : child xs ≡ child new = sym (same (λ (z : State). z.child) (ap (λ z. z.child) was)) in
    let siblings : sibling xs ≡ sibling new = sym (same (λ (z : State). z.sibling) (ap (λ z. z.sibling) was)) in
    let depths : depth xs ≡ depth new = sym (same (λ (z : State). z.depth) (ap (λ z. z.depth) was)) in
    subst (λ f. HasLinks (length new) (parent new) (byte new) (child new) (sibling new) f) depths
    (subst (λ f. HasLinks (length new) (parent new) (byte new) (child new) f (depth xs)) siblings
    (subst (λ f. HasLinks (length new) (parent new) (byte new) f (sibling xs) (depth xs)) children
    (subst (λ f. HasLinks (length new) (parent new) f (child xs) (sibling xs) (depth xs)) bytes
    (subst (λ f. HasLinks (length new) f (byte xs) (child xs) (sibling xs) (depth xs)) parents
    (subst (λ n. HasLinks n (parent xs) (byte xs) (child xs) (sibling xs) (depth xs))
    (sym (length-set xs j (as_match y))) tree)))))

-- only the mark of that state changes
pub marked-marked : (xs : List State) (j id : ℕ) (y : State) → id < length xs → j ≡ id → y ≡ slice_index_or xs j y
    → IsMarked xs (slice_set xs j (as_match y)) id
marked-marked xs j id y inside here read =
    let within : j < length xs = omega arith in
    let was : y ≡ state_at xs j = get_or_read xs j y within read no_state in
    let new = slice_set xs j (as_match y) in
    let same = λ (f : State → ℕ) (e : f (as_match y) ≡ f (state_at xs j)). column-set f xs within e in
    record {
      len = length-set xs j (as_match y);
      same = λ i. (
        same (λ (z : State). z.parent) (ap (λ z. z.parent) was) i,
        same (λ (z : State). z.byte) (ap (λ z. z.byte) was) i,
        same (λ (z : State). z.depth) (ap (λ z. z.depth) was) i,
      );
      marked = subst (λ k. is_match new k ≡ true) here (ap (λ z. z.is_match) (set-here xs within));
      others = λ i ne. ap (λ z. z.is_match) (set-there xs (as_match y) (omega arith));
    }

-- What is stored for the states.
use Rattle.std.proofs.Common.{◌≡◌, ℕ, ◌+◌, ◌<◌, ◌≤◌, List, [], ◌∷◌, ◌++◌, length, sym, ap, subst, ◌∙◌, ⊎_elim, arith, slice_index, get_or, length-append}
use Rattle.std.proofs.lemmas.Bool.{cases_lt}
use Rattle.std.proofs.lemmas.List.{get_or_append_left, get_or-append-add}
use Rattle.ac_noncontiguous.specs.declared.links.Links.{Links}
use Rattle.ac_noncontiguous.specs.declared.links.Range.{Range}
use Rattle.ac_noncontiguous.specs.declared.trie.Trie.{Trie}
use Rattle.ac_noncontiguous.specs.declared.compiler.numbering.Numbering.{Numbering}
use Rattle.ac_noncontiguous.specs.declared.compiler.outlines.Outline.{Outline}
use Rattle.ac_noncontiguous.specs.declared.nfa.tables.State.{State}
use Rattle.ac_noncontiguous.specs.Nfa.{kept_of}
use Rattle.ac_noncontiguous.specs.Trie.Tree.{depth}
use Rattle.ac_noncontiguous.specs.Compiler.Assembly.{outline_of, IsFailureOf, IsOutlineOf, AreOutlines, IsKeptOf, AreKept}

-- ---- the outlines

-- the outlines before an appended one, and that one
outline-before : (outlines : List Outline) (o : Outline) (k : ℕ) → k < length outlines
    → outline_of (outlines ++ o ∷ []) k ≡ outline_of outlines k
outline-before outlines o k within = get_or_append_left outlines (o ∷ []) (record { fail = 0; depth = 0 }) k within

outline-last : (outlines : List Outline) {o : Outline} {k : ℕ} → k ≡ length outlines
    → outline_of (outlines ++ o ∷ []) k ≡ o
outline-last outlines {o} {k} last =
    let e : length outlines + 0 ≡ k = omega arith in
    subst (λ n. get_or (outlines ++ o ∷ []) n (record { fail = 0; depth = 0 }) ≡ o) e
    (get_or-append-add outlines (o ∷ []) 0 (record { fail = 0; depth = 0 }))

-- the outline of one more state
pub outlines-more : {trie : Trie} {numbering : Numbering} {links : Links} {to : ℕ} {outlines : List Outline}
    {o : Outline} → IsOutlineOf trie numbering links to o → AreOutlines trie numbering links to outlines
    → AreOutlines trie numbering links (to + 1) (outlines ++ o ∷ [])
outlines-more {trie} {numbering} {links} {to} {outlines} {o} is h =
    record {
      counted = omega (arith, length-append outlines (o ∷ []), h.counted);
      right = λ i within.
          ⊎_elim
          (λ (before : i < to). subst (IsOutlineOf trie numbering links i)
          (sym (outline-before outlines o i (omega (arith, h.counted)))) (h.right i before))
          (λ (after : to ≤ i).
          let here : i ≡ to = omega arith in
          subst (IsOutlineOf trie numbering links i) (sym (outline-last outlines (here ∙ sym h.counted)))
          (subst (λ x. IsOutlineOf trie numbering links x o) (sym here) is))
          (cases_lt i to);
    }

-- ---- the entries of the table

-- what is stored for the first n states
pub record AreKeptBelow (outlines : List Outline) (at : List ℕ) (ranges : List Range) (transitions rows : List ℕ) (to : ℕ)
    (states : List State) : Type 0 where
  pub counted : length states ≡ to
  pub kept : (i : ℕ) → i < to → IsKeptOf outlines at ranges i (slice_index transitions i) (slice_index rows i)
      (kept_of states i)

-- the entries before an appended one, and that one
entry-kept : (states : List State) (s : State) (k : ℕ) → k < length states
    → kept_of (states ++ s ∷ []) k ≡ kept_of states k
entry-kept states s k within =
    get_or_append_left states (s ∷ [])
    (record { transitions = 0; matches = 0; matches_len = 0; fail = 0; depth = 0; row = 0 }) k within

entry-last : (states : List State) {s : State} {k : ℕ} → k ≡ length states → kept_of (states ++ s ∷ []) k ≡ s
entry-last states {s} {k} last =
    let e : length states + 0 ≡ k = omega arith in
    subst (λ n. get_or (states ++ s ∷ []) n
    (record { transitions = 0; matches = 0; matches_len = 0; fail = 0; depth = 0; row = 0 }) ≡ s) e
    (get_or-append-add states (s ∷ []) 0
    (record { transitions = 0; matches = 0; matches_len = 0; fail = 0; depth = 0; row = 0 }))

-- the entry of one more state
pub kept-more : {outlines : List Outline} {at : List ℕ} {ranges : List Range} {transitions rows : List ℕ} {to from row : ℕ}
    {states : List State} {s : State} → from ≡ slice_index transitions to → row ≡ slice_index rows to
    → IsKeptOf outlines at ranges to from row s → AreKeptBelow outlines at ranges transitions rows to states
    → AreKeptBelow outlines at ranges transitions rows (to + 1) (states ++ s ∷ [])
kept-more {outlines} {at} {ranges} {transitions} {rows} {to} {row} {states} {s} is_from is_row k h =
    record {
      counted = omega (arith, length-append states (s ∷ []), h.counted);
      kept = λ i within.
          let f = slice_index transitions in
          let r = slice_index rows in
          ⊎_elim
          (λ (before : i < to). subst (IsKeptOf outlines at ranges i (f i) (r i))
          (sym (entry-kept states s i (omega (arith, h.counted)))) (h.kept i before))
          (λ (after : to ≤ i).
          let here : i ≡ to = omega arith in
          let read : IsKeptOf outlines at ranges to (f to) (r to) s = subst
          (λ x. IsKeptOf outlines at ranges to (f to) x s) is_row
          (subst (λ x. IsKeptOf outlines at ranges to x row s) is_from k) in
          subst (IsKeptOf outlines at ranges i (f i) (r i)) (sym (entry-last states (here ∙ sym h.counted)))
          (subst (λ x. IsKeptOf outlines at ranges x (f x) (r x) s) (sym here) read))
          (cases_lt i to);
    }

-- the entry after the last state completes the table
pub kept-all : {outlines : List Outline} {at : List ℕ} {ranges : List Range} {transitions rows : List ℕ} {to : ℕ}
    {states : List State} (s : State) → to ≡ length at
    → s.transitions ≡ slice_index transitions (length at)
    → AreKeptBelow outlines at ranges transitions rows to states
    → AreKept outlines at ranges transitions rows (states ++ s ∷ [])
kept-all {outlines} {at} {ranges} {transitions} {rows} {states} s all end h =
    record {
      counted = omega (arith, length-append states (s ∷ []), h.counted);
      kept = λ i within. subst (IsKeptOf outlines at ranges i (slice_index transitions i) (slice_index rows i))
          (sym (entry-kept states s i (omega (arith, h.counted)))) (h.kept i (omega arith));
      last = ap (λ x. x.transitions) (entry-last states (sym all ∙ sym h.counted)) ∙ end;
    }

-- ---- what the entries have of the outlines

-- the failure of a state is that of its trie state
pub kept-fails : {trie : Trie} {numbering : Numbering} {links : Links} {outlines : List Outline} {ranges : List Range}
    {transitions rows : List ℕ} {states : List State} {i : ℕ}
    → AreOutlines trie numbering links (length numbering.at.items) outlines
    → AreKept outlines numbering.at.items ranges transitions rows states → 1 < i → i < length numbering.at.items
    → IsFailureOf numbering links (slice_index numbering.at.items i) (kept_of states i).fail
kept-fails {numbering} {links} {i} o k past within =
    subst (IsFailureOf numbering links (slice_index numbering.at.items i)) (sym (k.kept i within).outline.0)
    ((o.right i within).fails past)

-- its depth is that of its trie state
pub kept-deep : {trie : Trie} {numbering : Numbering} {links : Links} {outlines : List Outline} {ranges : List Range}
    {transitions rows : List ℕ} {states : List State} {i : ℕ}
    → AreOutlines trie numbering links (length numbering.at.items) outlines
    → AreKept outlines numbering.at.items ranges transitions rows states → 1 < i → i < length numbering.at.items
    → (kept_of states i).depth ≡ depth trie.states.items (slice_index numbering.at.items i)
kept-deep {i} o k past within = (k.kept i within).outline.1 ∙ (o.right i within).deep past

-- the first two states fail to the dead one, and have depth 0
pub kept-flat : {trie : Trie} {numbering : Numbering} {links : Links} {outlines : List Outline} {ranges : List Range}
    {transitions rows : List ℕ} {states : List State} {i : ℕ}
    → AreOutlines trie numbering links (length numbering.at.items) outlines
    → AreKept outlines numbering.at.items ranges transitions rows states → i < 2 → i < length numbering.at.items
    → ((kept_of states i).fail ≡ 0) × ((kept_of states i).depth ≡ 0)
kept-flat {i} o k low within =
    let flat = (o.right i within).flat low in
    ((k.kept i within).outline.0 ∙ flat.0, (k.kept i within).outline.1 ∙ flat.1)

-- The transitions to the children of a trie state, where no byte has a partner.
use Rattle.std.proofs.Common.{◌≡◌, ◌≢◌, ℕ, ◌+◌, ◌<◌, ◌≤◌, List, [], ◌∷◌, ◌++◌, length, sym, ap, subst, ◌∙◌, inl, inr, ⊎_elim, arith, slice_index, slice_index_or, length-append}
use Rattle.std.proofs.lemmas.Bool.{cases_lt}
use Rattle.std.proofs.lemmas.List.{get_or_append_left}
use Rattle.std.proofs.Math.Seq.{get_or-append_seam}
use Rattle.ac_input.specs.Same.{IsUnpaired}
use Rattle.ac_input.specs.Laws.LiveLaws.{canonical}
use Rattle.ac_noncontiguous.specs.declared.nfa.tables.Transition.{Transition}
use Rattle.ac_noncontiguous.specs.declared.trie.Trie.{Trie}
use Rattle.ac_noncontiguous.specs.declared.compiler.numbering.Numbering.{Numbering}
use Rattle.ac_noncontiguous.specs.Trie.Tree.{IsFirstChild, parent, byte}
use Rattle.ac_noncontiguous.specs.Nfa.{no_transition, byte_at, next_at}
use Rattle.ac_noncontiguous.specs.Compiler.Numbering.{IsNumbering}
use Rattle.ac_noncontiguous.specs.Compiler.Edges.{IsChildFor, IsEdgeTo}
use Rattle.ac_noncontiguous.specs.Compiler.Layout.{HasAll, IsAppended}
use Rattle.ac_noncontiguous.specs.Compiler.Only.{AppendsChildrenOf, AreToChildren, HasNoneFrom}
use Rattle.ac_noncontiguous.proofs.compiler.OnlyLemmas.{AreLaid, edge-child, edge-none, laid-after}

-- no child comes before the first byte
pub children-none : (trie : Trie) (numbering : Numbering) (of : ℕ) → AreToChildren trie numbering of 0 []
children-none trie numbering of = record {
  each = λ k inside. absurd (omega (arith, inside));
  below = λ k inside. absurd (omega (arith, inside));
  small = omega arith;
  rising = λ j k less inside. absurd (omega (arith, inside));
  all = λ c some within above less. absurd (omega (arith, less));
}

-- the transition to the next child is added
pub children-more : (trie : Trie) (numbering : Numbering) (of to at low next : ℕ) (added : List Transition) → 0 < at
    → IsFirstChild (length trie.states.items) (parent trie.states.items) (byte trie.states.items) of to at
    → low ≡ byte trie.states.items at → low < 256 → next ≡ slice_index numbering.of.items at
    → AreToChildren trie numbering of to added
    → AreToChildren trie numbering of (byte trie.states.items at + 1) (added ++ record { byte = low; next = next } ∷ [])
children-more trie numbering of to at low next added some f low_is fits next_is h =
    let states = trie.states.items in
    let t : Transition = record { byte = low; next = next } in
    let new = added ++ t ∷ [] in
    let child = f.is_child some in
    let from : to ≤ byte states at = child.2 in
    let long : length new ≡ length added + 1 = length-append added (t ∷ []) in
    let old : (k : ℕ) → k < length added → slice_index_or new k no_transition ≡ slice_index_or added k no_transition =
    λ k inside. get_or_append_left added (t ∷ []) no_transition k inside in
    let last : slice_index_or new (length added) no_transition ≡ t = get_or-append_seam added t [] no_transition in
    let byte_old : (k : ℕ) → k < length added → byte_at new k ≡ byte_at added k = λ k inside. ap (λ u. u.byte) (old k inside) in
    let byte_last : byte_at new (length added) ≡ byte states at = ap (λ u. u.byte) last ∙ low_is in
    let cases : (P : ℕ → Type 0) → ((k : ℕ) → k < length added → P k) → P (length added) → (k : ℕ) → k < length new → P k =
    λ P before end k inside. ⊎_elim
    (λ (low_k : k < length added). before k low_k)
    (λ (high : length added ≤ k). subst P (let e : length added ≡ k = omega (arith, high, inside, long) in e) end)
    (cases_lt k (length added)) in
    record {
      each = cases
          (λ k. (c : ℕ) × IsChildFor states of (byte_at new k) c × (next_at new k ≡ slice_index numbering.of.items c))
          (λ k inside. let e = h.each k inside in (
            e.0,
            subst (λ b. IsChildFor states of b e.0) (sym (byte_old k inside)) e.1,
            ap (λ u. u.next) (old k inside) ∙ e.2,
          ))
          (at, (some, child.0, child.1, sym byte_last), ap (λ u. u.next) last ∙ next_is);
      below = cases (λ k. byte_at new k < byte states at + 1)
          (λ k inside. let b = h.below k inside in let e = byte_old k inside in omega (arith, b, e, from))
          (omega (arith, byte_last));
      small = omega (arith, low_is, fits);
      rising = λ j k less inside. ⊎_elim
          (λ (low_k : k < length added).
          let up = h.rising j k less low_k in
          let a = byte_old j (omega (arith, less, low_k)) in
          let b = byte_old k low_k in
          omega (arith, up, a, b))
          (λ (high : length added ≤ k).
          let here : k ≡ length added = omega (arith, high, inside, long) in
          let j_in : j < length added = omega (arith, less, here) in
          let a = byte_old j j_in in
          let b = h.below j j_in in
          let e : byte_at new k ≡ byte states at = ap (byte_at new) here ∙ byte_last in
          omega (arith, a, b, e, from))
          (cases_lt k (length added));
      all = λ c c_some c_in above less. ⊎_elim
          (λ (before : byte states c < to).
          let e = h.all c c_some c_in above before in
          let k_in = e.1 in (e.0, omega (arith, k_in, long), byte_old e.0 e.1 ∙ e.2))
          (λ (past : to ≤ byte states c).
          let b = f.before_all c c_some c_in above past in
          let least = b.1 in
          let same : byte states at ≡ byte states c = omega (arith, least, less) in
          (length added, omega (arith, long), byte_last ∙ same))
          (cases_lt (byte states c) to);
    }

-- past the last child there are none
pub children-past : (trie : Trie) (of to : ℕ)
    → IsFirstChild (length trie.states.items) (parent trie.states.items) (byte trie.states.items) of to 0
    → HasNoneFrom trie of to
children-past trie of to f c some within above = ⊎_elim
    (λ (before : byte trie.states.items c < to). before)
    (λ (past : to ≤ byte trie.states.items c).
    let first = (f.before_all c some within above past).0 in absurd (omega (arith, first)))
    (cases_lt (byte trie.states.items c) to)

-- the transitions to all children are those of the state
children-laid : (trie : Trie) (numbering : Numbering) (back i of to : ℕ) (added : List Transition)
    → IsUnpaired trie.pairing → IsNumbering (length trie.states.items) numbering → 1 < i → i ≢ numbering.start
    → of ≡ slice_index numbering.at.items i → AreToChildren trie numbering of to added → HasNoneFrom trie of to
    → AreLaid trie numbering back i added
children-laid trie numbering back i of to added unpaired n past not_start is_of h none =
    let own : (b : ℕ) → canonical trie.pairing b ≡ b = λ b. let u = unpaired b in omega (arith, u) in
    record {
      edges = λ k inside.
          let e = h.each k inside in
          let child = e.1 in
          let edge : IsEdgeTo trie numbering back i (byte_at added k) (slice_index numbering.of.items e.0) =
          edge-child n past is_of (subst (λ b. IsChildFor trie.states.items of b e.0) (sym (own (byte_at added k))) child) in
          let number = n.numbers.numbers e.0 child.1 in
          let least = number.0 in (
            subst (IsEdgeTo trie numbering back i (byte_at added k)) (sym e.2) edge,
            λ is. let next = e.2 in omega (arith, least, next, is),
          );
      small = λ k inside. let b = h.below k inside in let s = h.small in omega (arith, b, s);
      rising = h.rising;
      missing = λ b apart. edge-none n past not_start is_of
          (λ c some within above same.
          let is : byte trie.states.items c ≡ b = same ∙ own b in
          let k = h.all c some within above (none c some within above) in
          apart k.0 k.1 (k.2 ∙ is));
    }

-- one more state is laid out by its children
pub laid-children : {trie : Trie} {numbering : Numbering} {back i of : ℕ} {old new : List Transition}
    → IsUnpaired trie.pairing → IsNumbering (length trie.states.items) numbering → i ≢ 1 → (¬ HasAll numbering.start i)
    → of ≡ slice_index numbering.at.items i → AppendsChildrenOf trie numbering of old new
    → IsAppended trie numbering back i old new
laid-children {trie} {numbering} {back} {i} {of} {old} {new} unpaired n not_fail part is_of h =
    let not_dead : i ≢ 0 = λ is. part (inl is) in
    let not_start : i ≢ numbering.start = λ is. part (inr (inl is)) in
    subst (IsAppended trie numbering back i old) (sym h.2)
    (laid-after not_fail part
    (children-laid trie numbering back i of h.1 h.0 unpaired n (omega (arith, not_dead, not_fail)) not_start is_of h.3 h.4))

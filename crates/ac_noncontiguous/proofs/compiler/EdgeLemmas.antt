-- Where the bytes lead from a state, by the children of its trie state.
use Rattle.std.proofs.Common.{◌≡◌, ◌≢◌, ℕ, ◌+◌, ◌-◌, ◌<◌, ◌≤◌, ◌==◌, if◌then◌else◌, List, length, sym, ap, subst, ◌∙◌, inl, inr, ⊎_elim, arith, slice_index, slice_set, get_or-set_same, get_or-set_other}
use Rattle.std.proofs.lemmas.Bool.{cases_lt, cases_eq}
use Rattle.std.proofs.lemmas.Bool.Decides.{nat_tests}
use Rattle.ac_noncontiguous.specs.declared.trie.State.{State}
use Rattle.ac_noncontiguous.specs.Trie.Tree.{IsTree, IsFirstChild, parent, byte, sibling}
use Rattle.ac_noncontiguous.specs.Trie.Entering.{HasNoChild}
use Rattle.ac_input.specs.Laws.LiveLaws.{canonical}
use Rattle.ac_noncontiguous.specs.declared.trie.Trie.{Trie}
use Rattle.ac_noncontiguous.specs.declared.compiler.numbering.Numbering.{Numbering}
use Rattle.ac_noncontiguous.specs.Compiler.Numbering.{IsNumbering}
use Rattle.ac_noncontiguous.specs.Compiler.Edges.{AreTargets, missing, IsChildFor, IsEdgeTo}
use Rattle.std.specs.Prelude.{◌⊎◌}

-- The targets are set for the children whose bytes are less than `from`.
pub record AreTargetsBelow (states : List State) (numbers : List ℕ) (of other from : ℕ)
    (targets : List ℕ) : Type 0 where
  pub child : (c : ℕ) → 0 < c → c < length states → parent states c ≡ of → byte states c < from
      → slice_index targets (byte states c) ≡ slice_index numbers c
  pub none : (b : ℕ) → b < 256
      → ((c : ℕ) → 0 < c → c < length states → parent states c ≡ of → byte states c < from → byte states c ≢ b)
      → slice_index targets b ≡ other
  pub cases : (b : ℕ) → b < 256
      → (slice_index targets b ≡ other)
      ⊎ ((c : ℕ) × IsChildFor states of b c × (slice_index targets b ≡ slice_index numbers c))

-- before the first child no byte has a target
pub targets-none : {states : List State} {numbers : List ℕ} {of other : ℕ} {targets : List ℕ}
    → ((b : ℕ) → b < 256 → slice_index targets b ≡ other) → AreTargetsBelow states numbers of other 0 targets
targets-none filled =
    record {
      child = λ c some within above less. absurd (omega arith);
      none = λ b small apart. filled b small;
      cases = λ b small. inl (filled b small);
    }

-- the target of the next child is set
pub targets-more : {states : List State} {numbers : List ℕ} {of other from at : ℕ} {targets : List ℕ} → IsTree states
    → 0 < at → byte states at < length targets → IsFirstChild (length states) (parent states) (byte states) of from at
    → AreTargetsBelow states numbers of other from targets
    → AreTargetsBelow states numbers of other (byte states at + 1)
    (slice_set targets (byte states at) (slice_index numbers at))
targets-more {states} {numbers} {of} {other} {from} {at} {targets} tree some room f t =
    let h = f.is_child some in
    let low = byte states at in
    let v = slice_index numbers at in
    let new = slice_set targets low v in
    let here : slice_index new low ≡ v = get_or-set_same targets low v 0 room in
    let there : (b : ℕ) → b ≢ low
    → slice_index new b ≡ slice_index targets b = λ b ne. get_or-set_other targets low b v 0 ne in
    record {
      child = λ c c_some c_in above less.
          ⊎_elim
          (λ (same : byte states c ≡ low).
          let one : c ≡ at = tree.apart c at c_some some c_in h.0 (above ∙ sym h.1) same in
          ap (slice_index new) same ∙ (here ∙ ap (slice_index numbers) (sym one)))
          (λ (ne : byte states c ≢ low).
          ⊎_elim
          (λ (before : byte states c < from). there (byte states c) ne ∙ t.child c c_some c_in above before)
          (λ (past : from ≤ byte states c). absurd (omega (arith, (f.before_all c c_some c_in above past).1)))
          (cases_lt (byte states c) from))
          (cases_eq (byte states c) low);
      none = λ b small apart.
          let ne : b ≢ low = λ same. apart at some h.0 h.1 (omega arith) (sym same) in
          there b ne ∙ t.none b small (λ c c_some c_in above less. apart c c_some c_in above (omega (arith, h.2)));
      cases = λ b small.
          ⊎_elim
          (λ (same : b ≡ low). inr (at, (some, h.0, h.1, sym same), ap (slice_index new) same ∙ here))
          (λ (ne : b ≢ low).
          ⊎_elim
          (λ (is_other : slice_index targets b ≡ other). inl (there b ne ∙ is_other))
          (λ (one : (c : ℕ) × IsChildFor states of b c × (slice_index targets b ≡ slice_index numbers c)).
          inr (one.0, one.1, there b ne ∙ one.2))
          (t.cases b small))
          (cases_eq b low);
    }

-- past the last child all targets are set
pub targets-all : {states : List State} {numbers : List ℕ} {of other from at : ℕ} {targets : List ℕ} → at ≡ 0
    → IsFirstChild (length states) (parent states) (byte states) of from at
    → AreTargetsBelow states numbers of other from targets → AreTargets states numbers of other targets
targets-all {states} {of} {from} none f t =
    let before : (c : ℕ) → 0 < c → c < length states → parent states c ≡ of → byte states c < from =
    λ c some within above.
    ⊎_elim
    (λ (lt : byte states c < from). lt)
    (λ (past : from ≤ byte states c). absurd (omega (arith, (f.before_all c some within above past).0)))
    (cases_lt (byte states c) from) in
    record {
      child = λ c some within above. t.child c some within above (before c some within above);
      none = λ b small apart. t.none b small (λ c some within above less. apart c some within above);
      cases = t.cases;
    }

-- the next sibling is the first child from the next byte on
pub sibling-first : (states : List State) {of from at : ℕ} → IsTree states → 0 < at
    → IsFirstChild (length states) (parent states) (byte states) of from at
    → IsFirstChild (length states) (parent states) (byte states) of (byte states at + 1) (sibling states at)
sibling-first states {at} tree some f =
    let h = f.is_child some in
    subst (λ p. IsFirstChild (length states) (parent states) (byte states) p (byte states at + 1) (sibling states at))
    h.1 (tree.siblings at some h.0)

-- along the children fewer and fewer bytes are left
pub sibling-rises : (states : List State) {of from at : ℕ} → IsTree states → 0 < at → byte states at < 256
    → IsFirstChild (length states) (parent states) (byte states) of from at
    → (if sibling states at == 0 then 0 else 256 - byte states (sibling states at))
    < (if at == 0 then 0 else 256 - byte states at)
sibling-rises states tree some small f =
    let g = (sibling-first states tree some f).is_child in
    grind (arith, nat_tests)

-- a write of a child's number sets its target
pub targets-set : {states : List State} {numbers : List ℕ} {of other from at low number : ℕ} {targets : List ℕ}
    → IsTree states → 0 < at → low < length targets → low ≡ byte states at → number ≡ slice_index numbers at
    → IsFirstChild (length states) (parent states) (byte states) of from at
    → AreTargetsBelow states numbers of other from targets
    → AreTargetsBelow states numbers of other (byte states at + 1) (slice_set targets low number)
targets-set {states} {numbers} {of} {other} {at} {number} {targets} tree some room is_low is_number f t =
    let h = targets-more tree some (omega arith) f t in
    subst (λ b. AreTargetsBelow states numbers of other (byte states at + 1) (slice_set targets b number)) (sym is_low)
    (subst (λ n. AreTargetsBelow states numbers of other (byte states at + 1) (slice_set targets (byte states at) n))
    (sym is_number) h)

-- ---- the edges of a state

-- where a byte leads from a state, by the targets of its trie state
pub edge-target : {trie : Trie} {numbering : Numbering} {back i of other b next : ℕ} {targets : List ℕ}
    → IsNumbering (length trie.states.items) numbering → other < length numbering.at.items
    → (1 < i → of ≡ slice_index numbering.at.items i) → (1 < i → other ≡ missing numbering.start back i) → 0 < i
    → b < 256 → next ≡ slice_index targets (canonical trie.pairing b)
    → AreTargets trie.states.items numbering.of.items of other targets → IsEdgeTo trie numbering back i b next
edge-target {trie} {numbering} {of} {other} {b} {targets} n other_in is_of is_other some small read t =
    let states = trie.states.items in
    let low = canonical trie.pairing b in
    let low_small : low < 256 = omega arith in
    record {
      within =
          ⊎_elim
          (λ (is : slice_index targets low ≡ other). omega arith)
          (λ (one : (c : ℕ) × IsChildFor states of low c
          × (slice_index targets low ≡ slice_index numbering.of.items c)).
          omega (arith, one.2, (n.numbers.numbers one.0 one.1.1).1))
          (t.cases low low_small);
      dead = λ none. absurd (omega arith);
      child = λ past c is_child.
          read ∙ (ap (slice_index targets) (sym is_child.3)
          ∙ t.child c is_child.0 is_child.1 (is_child.2 ∙ sym (is_of past)));
      none = λ past apart.
          read ∙ (t.none low low_small (subst (λ p. HasNoChild states p low) (sym (is_of past)) apart) ∙ is_other past);
      cases = λ past.
          ⊎_elim
          (λ (is : slice_index targets low ≡ other). inl (read ∙ (is ∙ is_other past)))
          (λ (one : (c : ℕ) × IsChildFor states of low c
          × (slice_index targets low ≡ slice_index numbering.of.items c)).
          inr (one.0, (one.1.0, one.1.1, one.1.2 ∙ is_of past, one.1.3)))
          (t.cases low low_small);
    }

-- every byte leads from the dead state to it
pub edge-dead : {trie : Trie} {numbering : Numbering} {back b next : ℕ}
    → IsNumbering (length trie.states.items) numbering → next ≡ 0 → IsEdgeTo trie numbering back 0 b next
edge-dead n is =
    record {
      within = omega (arith, n.places.starts.1);
      dead = λ _. is;
      child = λ past. absurd (omega arith);
      none = λ past. absurd (omega arith);
      cases = λ past. absurd (omega arith);
    }

-- a byte without a child leads from the unanchored start to `back`
pub missing-start : {start back i other : ℕ} → i ≡ start → other ≡ back → other ≡ missing start back i
missing-start here is = grind (arith, nat_tests)

-- a byte without a child leads from every other state nowhere
pub missing-other : {start : ℕ} (back : ℕ) {i other : ℕ} → i ≢ start → other ≡ 1 → other ≡ missing start back i
missing-other back there is = grind (arith, nat_tests)

-- The transitions of a state whose trie state has at most one child.
use Rattle.std.proofs.Common.{◌≡◌, ◌≢◌, ℕ, zero, suc, ◌+◌, ◌-◌, ◌<◌, ◌≤◌, ◌==◌, if◌then◌else◌, Bool, true, false, List, [], ◌∷◌, ◌++◌, length, refl, sym, ap, subst, ◌∙◌, inl, inr, ⊎_elim, arith, slice_index, slice_index_or, length-append}
use Rattle.std.proofs.lemmas.Bool.{cases_lt, cases_eq}
use Rattle.std.proofs.lemmas.Bool.Decides.{nat_tests}
use Rattle.std.proofs.lemmas.List.{get_or_append_left, get_or-append-add}
use Rattle.ac_input.specs.Same.{other}
use Rattle.ac_input.specs.Laws.LiveLaws.{canonical}
use Rattle.ac_noncontiguous.specs.declared.nfa.tables.Transition.{Transition}
use Rattle.ac_noncontiguous.specs.declared.trie.State.{State}
use Rattle.ac_noncontiguous.specs.declared.trie.Trie.{Trie}
use Rattle.ac_noncontiguous.specs.declared.compiler.numbering.Numbering.{Numbering}
use Rattle.ac_noncontiguous.specs.Trie.Tree.{IsTree, parent, byte, child, sibling}
use Rattle.ac_noncontiguous.specs.Trie.Entering.{HasNoChild}
use Rattle.ac_noncontiguous.specs.Nfa.{no_transition, byte_at, next_at}
use Rattle.ac_noncontiguous.specs.Compiler.Numbering.{IsNumbering}
use Rattle.ac_noncontiguous.specs.Compiler.Edges.{IsChildFor, IsEdgeTo}
use Rattle.ac_noncontiguous.specs.Compiler.Layout.{HasAll, IsAppended}
use Rattle.ac_noncontiguous.specs.Compiler.Only.{HasOneAtMost, first_byte, for_both, to_only}
use Rattle.ac_noncontiguous.proofs.compiler.EdgeLemmas.{missing-other}
use Rattle.ac_input.proofs.lemmas.SameLemmas.{other-small, own-inverse}

-- ---- one more state, by its appended transitions

-- an element appended to a list is found there
append-at : (old added : List Transition) (k : ℕ) → length old ≤ k
    → slice_index_or (old ++ added) k no_transition ≡ slice_index_or added (k - length old) no_transition
append-at old added k past =
    let back : length old + (k - length old) ≡ k = omega arith in
    subst (λ n. slice_index_or (old ++ added) n no_transition ≡ slice_index_or added (k - length old) no_transition)
    back (get_or-append-add old added (k - length old) no_transition)

-- the appended transitions are those of state i
pub record AreLaid (trie : Trie) (numbering : Numbering) (back i : ℕ) (added : List Transition) : Type 0 where
  pub edges : (k : ℕ) → k < length added
      → IsEdgeTo trie numbering back i (byte_at added k) (next_at added k) × (next_at added k ≢ 1)
  pub small : (k : ℕ) → k < length added → byte_at added k < 256
  pub rising : (j k : ℕ) → j < k → k < length added → byte_at added j < byte_at added k
  pub missing : (b : ℕ) → ((k : ℕ) → k < length added → byte_at added k ≢ b) → IsEdgeTo trie numbering back i b 1

pub laid-after : {trie : Trie} {numbering : Numbering} {back i : ℕ} {old added : List Transition} → i ≢ 1
    → (¬ HasAll numbering.start i) → AreLaid trie numbering back i added
    → IsAppended trie numbering back i old (old ++ added)
laid-after {trie} {numbering} {back} {i} {old} {added} not_fail part a =
    let new = old ++ added in
    let len = length-append old added in
    let at : (k : ℕ) → length old ≤ k
    → slice_index_or new k no_transition ≡ slice_index_or added (k - length old) no_transition = append-at old added in
    let low : (k : ℕ) → length old ≤ k
    → byte_at new k ≡ byte_at added (k - length old) = λ k past. ap (λ t. t.byte) (at k past) in
    let next : (k : ℕ) → length old ≤ k
    → next_at new k ≡ next_at added (k - length old) = λ k past. ap (λ t. t.next) (at k past) in
    record {
      keeps = record {
        longer = omega (arith, len);
        same = λ k within. get_or_append_left old added no_transition k within;
      };
      laid = record {
        order = omega (arith, len);
        edges = λ k past within.
            let e = a.edges (k - length old) (omega (arith, len)) in
            subst (IsEdgeTo trie numbering back i (byte_at new k)) (sym (next k past))
            (subst (λ b. IsEdgeTo trie numbering back i b (next_at added (k - length old))) (sym (low k past)) e.0);
        small = λ k past within. let e = low k past in omega (arith, e, a.small (k - length old) (omega (arith, len)));
        rising = λ j k past less within.
            let j_low = low j past in
            let k_low = low k (omega arith) in
            omega (arith, a.rising (j - length old) (k - length old) (omega arith) (omega (arith, len)));
        missing = λ b small apart. a.missing b (λ k within same.
            let there : length old + k - length old ≡ k = omega arith in
            apart (length old + k) (omega arith) (omega (arith, len))
            (low (length old + k) (omega arith) ∙ (ap (byte_at added) there ∙ same)));
        all = λ has. absurd (part has);
        none = λ is. absurd (not_fail is);
        longer =
            λ is_not k past within one. (a.edges (k - length old) (omega (arith, len))).1 (sym (next k past) ∙ one);
      };
    }

-- ---- one child at most

-- a first child without a sibling is the only one
pub only-one : (states : List State) (of d : ℕ) → IsTree states → of < length states
    → sibling states (child states of) ≡ 0 → 0 < d → d < length states → parent states d ≡ of → d ≡ child states of
only-one states of d tree within alone some inside child_of =
    let c = child states of in
    let f = tree.children of within in
    let h = f.before_all d some inside child_of (omega arith) in
    let g = f.is_child h.0 in
    ⊎_elim
    (λ (later : byte states c < byte states d).
    let n = (tree.siblings c h.0 g.0).before_all d some inside (child_of ∙ sym g.1) (omega arith) in
    absurd (omega (arith, n.0)))
    (λ (no_later : byte states d ≤ byte states c).
    tree.apart d c some h.0 inside g.0 (child_of ∙ sym g.1) (omega (arith, h.1)))
    (cases_lt (byte states c) (byte states d))

-- a byte whose canonical form has a child leads to its number
pub edge-child : {trie : Trie} {numbering : Numbering} {back i of c b : ℕ}
    → IsNumbering (length trie.states.items) numbering → 1 < i → of ≡ slice_index numbering.at.items i
    → IsChildFor trie.states.items of (canonical trie.pairing b) c
    → IsEdgeTo trie numbering back i b (slice_index numbering.of.items c)
edge-child {trie} {numbering} {of} {c} n past is_of h =
    record {
      within = (n.numbers.numbers c h.1).1;
      dead = λ none. absurd (omega arith);
      child = λ _ d is_child. ap (slice_index numbering.of.items)
          (trie.tree.apart c d h.0 is_child.0 h.1 is_child.1 (h.2 ∙ (is_of ∙ sym is_child.2)) (h.3 ∙ sym is_child.3));
      none = λ _ apart. absurd (apart c h.0 h.1 (h.2 ∙ is_of) h.3);
      cases = λ _. inr (c, (h.0, h.1, h.2 ∙ is_of, h.3));
    }

-- a byte without a child leads nowhere
pub edge-none : {trie : Trie} {numbering : Numbering} {back i of b : ℕ} → IsNumbering (length trie.states.items) numbering
    → 1 < i → i ≢ numbering.start → of ≡ slice_index numbering.at.items i
    → HasNoChild trie.states.items of (canonical trie.pairing b) → IsEdgeTo trie numbering back i b 1
edge-none {back} n past not_start is_of apart =
    let nowhere = missing-other back not_start refl in
    record {
      within = omega (arith, n.places.starts.0, n.places.starts.1);
      dead = λ none. absurd (omega arith);
      child = λ _ c is_child. absurd (apart c is_child.0 is_child.1 (is_child.2 ∙ sym is_of) is_child.3);
      none = λ _ _. nowhere;
      cases = λ _. inl nowhere;
    }

-- the partner of a canonical byte has that byte as its canonical form
canonical-partner : (pairing : List ℕ) (b : ℕ) → canonical pairing b ≡ b → canonical pairing (other pairing b) ≡ b
canonical-partner pairing b own = let back = own-inverse pairing b in omega arith

-- no other byte has that canonical form
canonical-only : (pairing : List ℕ) (b low : ℕ) → low ≢ b → other pairing low ≢ b → canonical pairing b ≢ low
canonical-only pairing b low ne ne_other is =
    ⊎_elim
    (λ (own : b ≡ low). ne (sym own))
    (λ (not_own : b ≢ low).
    let partner : other pairing b ≡ low = omega arith in
    ne_other (ap (other pairing) (sym partner) ∙ own-inverse pairing b))
    (cases_eq b low)

-- what holds of each of one or two transitions
one-each : {t : Transition} (P : Transition → Type 0) → P t → (k : ℕ) → k < 1
    → P (slice_index_or (t ∷ []) k no_transition)
one-each P p zero within = p
one-each P p (suc k) within = absurd (omega arith)

two-each : {t u : Transition} (P : Transition → Type 0) → P t → P u → (k : ℕ) → k < 2
    → P (slice_index_or (t ∷ (u ∷ [])) k no_transition)
two-each P p q zero within = p
two-each P p q (suc zero) within = q
two-each P p q (suc (suc k)) within = absurd (omega arith)

two-rising : (t u : Transition) → t.byte < u.byte → (j k : ℕ) → j < k → k < 2
    → byte_at (t ∷ (u ∷ [])) j < byte_at (t ∷ (u ∷ [])) k
two-rising t u less zero (suc zero) lt within = less
two-rising t u less j (suc (suc k)) lt within = absurd (omega arith)
two-rising t u less (suc j) (suc zero) lt within = absurd (omega arith)
two-rising t u less j zero lt within = absurd (omega arith)

-- the transitions for a byte and its partner, where both lead to one state and the others to none
laid-both : {trie : Trie} {numbering : Numbering} {back i low partner next : ℕ} (same : Bool) → (partner == low) ≡ same
    → low ≤ partner → low < 256 → partner < 256 → next ≢ 1 → IsEdgeTo trie numbering back i low next
    → IsEdgeTo trie numbering back i partner next
    → ((b : ℕ) → low ≢ b → partner ≢ b → IsEdgeTo trie numbering back i b 1)
    → AreLaid trie numbering back i
    (if same then record { byte = low; next = next } ∷ []
    else record { byte = low; next = next } ∷ (record { byte = partner; next = next } ∷ []))
laid-both {trie} {numbering} {back} {i} {low} {partner} {next} true is le low_in partner_in some one other_one none =
    let t : Transition = record { byte = low; next = next } in
    let equal : partner ≡ low = grind (arith, nat_tests) in
    record {
      edges = one-each (λ s. IsEdgeTo trie numbering back i s.byte s.next × (s.next ≢ 1)) (one, some);
      small = one-each (λ s. s.byte < 256) low_in;
      rising = λ j k lt within. absurd (omega arith);
      missing = λ b apart. let ne : low ≢ b = apart 0 (omega arith) in none b ne (λ e. ne (sym equal ∙ e));
    }
laid-both {trie} {numbering} {back} {i} {low} {partner} {next} false is le low_in partner_in some one other_one none =
    let t : Transition = record { byte = low; next = next } in
    let u : Transition = record { byte = partner; next = next } in
    let less : low < partner = grind (arith, nat_tests) in
    record {
      edges = two-each (λ s. IsEdgeTo trie numbering back i s.byte s.next × (s.next ≢ 1)) (one, some) (other_one, some);
      small = two-each (λ s. s.byte < 256) low_in partner_in;
      rising = two-rising t u less;
      missing = λ b apart. none b (apart 0 (omega arith)) (apart 1 (omega arith));
    }

-- the transitions to the only child, for its byte and its byte's partner
laid-child : {trie : Trie} {numbering : Numbering} {back i of : ℕ} → IsNumbering (length trie.states.items) numbering
    → 1 < i → i ≢ numbering.start → of < length trie.states.items → of ≡ slice_index numbering.at.items i
    → 0 < child trie.states.items of → HasOneAtMost trie of → first_byte trie of < 256
    → AreLaid trie numbering back i
    (for_both (first_byte trie of) (other trie.pairing (first_byte trie of))
    (slice_index numbering.of.items (child trie.states.items of)))
laid-child {trie} {of} n past not_start within is_of some one low_in =
    let states = trie.states.items in
    let c = child states of in
    let low = first_byte trie of in
    let partner = other trie.pairing low in
    let h = (trie.tree.children of within).is_child some in
    let own = (one some).1 in
    let back_again = canonical-partner trie.pairing low own in
    let number = n.numbers.numbers c h.0 in
    let least : low ≤ partner = omega arith in
    laid-both (partner == low) refl least low_in (other-small trie.pairing trie.paired low low_in)
    (λ is. omega (arith, number.0))
    (edge-child n past is_of (some, h.0, h.1, sym own))
    (edge-child n past is_of (some, h.0, h.1, sym back_again))
    (λ b ne ne_partner.
    edge-none n past not_start is_of
    (λ d d_some d_in child_of same.
    let only = only-one states of d trie.tree within (one some).0 d_some d_in child_of in
    canonical-only trie.pairing b low ne ne_partner (sym same ∙ ap (byte states) only)))

-- the transitions of a state whose trie state has no child
laid-none : {trie : Trie} {numbering : Numbering} {back i of : ℕ} → IsNumbering (length trie.states.items) numbering
    → 1 < i → i ≢ numbering.start → of < length trie.states.items → of ≡ slice_index numbering.at.items i
    → child trie.states.items of ≡ 0 → AreLaid trie numbering back i []
laid-none {trie} {of} n past not_start within is_of none =
    record {
      edges = λ k inside. absurd (omega arith);
      small = λ k inside. absurd (omega arith);
      rising = λ j k lt inside. absurd (omega arith);
      missing = λ b apart.
          edge-none n past not_start is_of
          (λ d some inside child_of same. let f =
          (trie.tree.children of within).before_all d some inside child_of (omega arith) in omega (arith, f.0));
    }

-- the transitions of a state whose trie state has one child or none
laid-either : (trie : Trie) (numbering : Numbering) (back i of : ℕ) (none : Bool)
    → (child trie.states.items of == 0) ≡ none → IsNumbering (length trie.states.items) numbering → 1 < i
    → i ≢ numbering.start → of < length trie.states.items → of ≡ slice_index numbering.at.items i → HasOneAtMost trie of
    → (0 < child trie.states.items of → first_byte trie of < 256)
    → AreLaid trie numbering back i
    (if none then [] else for_both (first_byte trie of) (other trie.pairing (first_byte trie of))
    (slice_index numbering.of.items (child trie.states.items of)))
laid-either trie numbering back i of true is n past not_start within is_of one low_in =
    laid-none n past not_start within is_of (grind (arith, nat_tests))
laid-either trie numbering back i of false is n past not_start within is_of one low_in =
    let some : 0 < child trie.states.items of = grind (arith, nat_tests) in
    laid-child n past not_start within is_of some one (low_in some)

-- one more state is laid out by its only child
pub laid-only : {trie : Trie} {numbering : Numbering} {back i of : ℕ} {old : List Transition}
    → IsNumbering (length trie.states.items) numbering → i ≢ 1 → (¬ HasAll numbering.start i)
    → of < length trie.states.items → of ≡ slice_index numbering.at.items i → HasOneAtMost trie of
    → (0 < child trie.states.items of → first_byte trie of < 256)
    → IsAppended trie numbering back i old (old ++ to_only trie numbering of)
laid-only {trie} {numbering} {back} {i} {of} n not_fail part within is_of one low_in =
    let not_dead : i ≢ 0 = λ is. part (inl is) in
    let not_start : i ≢ numbering.start = λ is. part (inr (inl is)) in
    laid-after not_fail part
    (laid-either trie numbering back i of (child trie.states.items of == 0) refl n (omega arith) not_start within is_of
    one low_in)

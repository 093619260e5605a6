-- How failures are found: where a byte leads from a state, and from its failures one after another.
use Rattle.std.proofs.Common.{◌≡◌, ◌≢◌, ℕ, ◌+◌, ◌<◌, ◌≤◌, true, false, List, [], ◌∷◌, ◌++◌, length, Option, Some, None, is_some, option_map, refl, sym, ap, subst, ◌∙◌, ⊎_elim, arith, slice_get, slice_index_or, true≢false}
use Rattle.std.proofs.lemmas.Option.{slice_get_read}
use Rattle.ac_input.specs.Dictionary.{Dictionary, BeginsEntered}
use Rattle.ac_input.specs.Laws.LiveLaws.{canonical}
use Rattle.ac_input.specs.Failure.{IsOwn}
use Rattle.ac_input.specs.States.{LeadsTo, FailsTo}
use Rattle.ac_input.proofs.lemmas.FailureLemmas.{failure-empty, own-none, own-failure_none, failure-stays_none}
use Rattle.ac_input.proofs.lemmas.LeadsLemmas.{leads-child, leads-start, leads-failure, leads-failure_none, fails-first, fails-next}
use Rattle.ac_noncontiguous.specs.declared.trie.State.{State}
use Rattle.ac_noncontiguous.specs.declared.trie.Trie.{Trie}
use Rattle.ac_noncontiguous.specs.Trie.Kept.{IsTrieOf}
use Rattle.ac_noncontiguous.specs.Trie.Tree.{IsTree, state_at, parent, byte, depth, text, is_match}
use Rattle.ac_noncontiguous.specs.Trie.Entering.{HasNoChild}
use Rattle.ac_noncontiguous.specs.Links.Failures.{IsChildOf, IsToldBy, AreShallower, AreFailsAbove, IsWithinDepth, NextOf, IsFinalIn}
use Rattle.ac_input.specs.declared.search.MatchKind.TheVariants.{Standard}
use Rattle.ac_noncontiguous.proofs.trie.TextLemmas.{text-child, text-start, length-text, child-deep}
use Rattle.ac_noncontiguous.proofs.trie.BridgeLemmas.{Stands, text-settled, child-begins, none-begins, match-own, own-match}

-- the text of a state that isn't the start isn't empty
pub text-some : (states : List State) → IsTree states → {i : ℕ} → i < length states → i ≢ 0 → text states i ≢ []
text-some states tree {i} within ne none =
    omega (arith, child-deep states tree (omega arith) within, length-text states i, ap length none)

-- the edge of a state for a byte is where the byte leads
pub told-leads : {m : Dictionary} {states : List State} {ends : List (Option ℕ)} → Stands m states ends
    → (m.kind ≢ Standard → (n : ℕ) → ¬ IsOwn m [] n) → {of low id : ℕ} → of < length states
    → canonical m.pairing low ≡ low → IsToldBy states of low (Some id) → NextOf m states of low (Some id)
told-leads {m} {states} s goes {of} {low} {id} within settled told =
    ⊎_elim
    (λ (c : IsChildOf states of low (Some id)).
    let t : text states id ≡ text states of ++ low ∷ [] =
    text-child states s.tree c.0 c.1
    ∙ (ap (λ p. text states p ++ byte states id ∷ []) c.2 ∙ ap (λ b. text states of ++ b ∷ []) c.3) in
    let begins = subst (BeginsEntered m) (sym (text-child states s.tree c.0 c.1) ∙ t) (child-begins s c.0 c.1) in
    let h = leads-child low (text-settled s within) begins in
    subst (λ xs. LeadsTo m false (text states of ++ low ∷ []) (Some xs))
    (ap (λ b. text states of ++ b ∷ []) settled ∙ sym t) h)
    (λ (back : (of ≡ 0) × (id ≡ 0) × HasNoChild states of low).
    let none = none-begins s within settled back.2 in
    let of_empty : text states of ≡ [] = ap (text states) back.0 ∙ text-start states s.tree in
    let id_empty : text states id ≡ [] = ap (text states) back.1 ∙ text-start states s.tree in
    let short : text states of ++ low ∷ [] ≡ low ∷ [] = ap (λ xs. xs ++ low ∷ []) of_empty in
    let h = leads-start goes (λ begins. none (subst (BeginsEntered m) (sym short) begins)) in
    subst (λ xs. LeadsTo m false xs (Some (text states id))) (sym short)
    (subst (λ xs. LeadsTo m false (low ∷ []) (Some xs)) (sym id_empty) h))
    told

-- ---- along the failures

-- The failures of a state were followed up to `at`: the byte leads from the first state to wherever it leads from `at`.
abbrev pub Follows : Dictionary → List State → ℕ → ℕ → Option ℕ → Type 0
Follows m states low from (Some at) = (r : Option ℕ) → NextOf m states at low r → NextOf m states from low r
Follows m states low from None = NextOf m states from low None

-- one more failure is followed
pub follows-more : {m : Dictionary} {states : List State} {ends : List (Option ℕ)} (fails : List (Option ℕ))
    → Stands m states ends → {low : ℕ} (from : ℕ) {at : ℕ} (r : Option ℕ) → at < length states
    → depth states at ≤ depth states from → canonical m.pairing low ≡ low
    → AreFailsAbove m states fails (depth states from + 1) → slice_get fails at ≡ Some r → IsToldBy states at low None
    → Follows m states low from (Some at) → Follows m states low from r
follows-more {states} fails s {low} from {at} (Some f) within shallow settled known given told follows =
    let none = none-begins s within settled told.1 in
    let fails_to = known at (Some f) within (omega arith) given in
    (λ r leads. follows r ((leads-failure low (option_map (text states) r) fails_to none).0 leads))
follows-more {states} fails s {low} from {at} None within shallow settled known given told follows =
    let none = none-begins s within settled told.1 in
    let fails_to = known at None within (omega arith) given in
    follows None (leads-failure_none low (text-some states s.tree within told.0) fails_to none)

-- at most how many more failures can be followed
abbrev pub failures_left : List State → Option ℕ → ℕ
failures_left states (Some at) = depth states at + 1
failures_left states None = 0

-- after each failure fewer are left
pub left-less : {states : List State} {fails : List (Option ℕ)} (at r : Option ℕ) {id : ℕ} → AreShallower states fails
    → at ≡ Some id → slice_get fails id ≡ Some r → failures_left states r < failures_left states at
left-less {states} (Some at) (Some f) {id} s is given =
    let same : at ≡ id = cc in
    let deep = (s.shallower id f given).1 in
    omega (arith, deep, ap (depth states) same)
left-less (Some at) None s is given = omega arith
left-less None r s is given = cc

-- the failure of a state no deeper than a bound is no deeper either
pub failure-within : {states : List State} {fails : List (Option ℕ)} {most : ℕ} (id : ℕ) {r : Option ℕ}
    → AreShallower states fails → depth states id ≤ most → slice_get fails id ≡ Some r → IsWithinDepth states most r
failure-within id s shallow given f is =
    let h = s.shallower id f (given ∙ ap Some is) in
    (h.0, omega (arith, h.1))

-- the edge found after following failures is where the byte leads from the first state
pub told-returns : {m : Dictionary} {states : List State} {ends : List (Option ℕ)} → Stands m states ends
    → (m.kind ≢ Standard → (n : ℕ) → ¬ IsOwn m [] n) → {low : ℕ} (from : ℕ) {at : ℕ} (told : Option ℕ)
    → at < length states → canonical m.pairing low ≡ low → is_some told ≡ true → IsToldBy states at low told
    → Follows m states low from (Some at) → NextOf m states from low told
told-returns s goes from (Some id) within settled some told follows =
    follows (Some id) (told-leads s goes within settled told)
told-returns s goes from None within settled some told follows = cc

-- the trie of a dictionary stands for it
pub stands-of : {trie : Trie} {m : Dictionary} → IsTrieOf m trie → Stands m trie.states.items trie.ends.items
stands-of {trie} t =
    record { tree = trie.tree; entered = t.stands }

-- what isn't some is none
pub none-of : (r : Option ℕ) → is_some r ≡ false → r ≡ None
none-of (Some x) e = cc
none-of None e = refl

-- ---- the failure of a state

-- if the failures above a depth are right, those above a lesser depth are right
pub above-fewer : {m : Dictionary} (states : List State) (fails : List (Option ℕ)) {few more : ℕ} → few ≤ more
    → AreFailsAbove m states fails more → AreFailsAbove m states fails few
above-fewer states fails le known i r within shallow given = known i r within (omega arith) given

-- the start fails to the dead state
pub start-fails : {m : Dictionary} (states : List State) → IsTree states → {i : ℕ} → i ≡ 0
    → FailsTo m (text states i) None
start-fails {m} states tree is =
    subst (λ xs. FailsTo m xs None) (sym (ap (text states) is ∙ text-start states tree)) (failure-empty m)

-- under a leftmost kind a match state fails to the dead state and, with an empty pattern, so does every state
pub final-fails : {m : Dictionary} {states : List State} {ends : List (Option ℕ)} → Stands m states ends → {i : ℕ}
    → i < length states → IsFinalIn m.kind states i true → FailsTo m (text states i) None
final-fails {m} {states} s {i} within final =
    ⊎_elim
    (λ (here : is_match states i ≡ true). let own = match-own s within here in own-none final.0 own.1)
    (λ (start : is_match states 0 ≡ true).
    let own = match-own s s.tree.start.0 start in
    own-failure_none (text states i) final.0 (subst (λ xs. IsOwn m xs own.0) (text-start states s.tree) own.1))
    final.1

-- no pattern is equal to the text of a state that isn't a match state
pub unmatched-own : {m : Dictionary} {states : List State} {ends : List (Option ℕ)} → Stands m states ends → {i n : ℕ}
    → i < length states → is_match states i ≡ false → ¬ IsOwn m (text states i) n
unmatched-own s within none own = true≢false (sym (own-match s within own) ∙ none)

-- if a state isn't final, there is no empty pattern under a leftmost kind
pub goes-on : {m : Dictionary} {states : List State} {ends : List (Option ℕ)} → Stands m states ends → (i : ℕ)
    → IsFinalIn m.kind states i false → (m.kind ≢ Standard → (n : ℕ) → ¬ IsOwn m [] n)
goes-on {m} {states} s i open_ kind n own =
    unmatched-own s s.tree.start.0 (open_ kind).1 (subst (λ xs. IsOwn m xs n) (sym (text-start states s.tree)) own)

-- a child of the start fails to the start
pub first-fails : {m : Dictionary} {states : List State} {ends : List (Option ℕ)} → Stands m states ends → {i : ℕ}
    → i ≢ 0 → i < length states → parent states i ≡ 0 → IsFinalIn m.kind states i false
    → FailsTo m (text states i) (Some (text states 0))
first-fails {m} {states} s {i} ne within above open_ =
    let short : text states i ≡ byte states i ∷ [] =
    text-child states s.tree (omega arith) within
    ∙ ap (λ xs. xs ++ byte states i ∷ []) (ap (text states) above ∙ text-start states s.tree) in
    let h = fails-first
    (λ kind n. (
      goes-on s i open_ kind n,
      λ own. unmatched-own s within (open_ kind).0 (subst (λ xs. IsOwn m xs n) (sym short) own),
    )) in
    subst (λ xs. FailsTo m xs (Some (text states 0))) (sym short)
    (subst (λ xs. FailsTo m (byte states i ∷ []) (Some xs)) (sym (text-start states s.tree)) h)

-- a child of a state that fails to the dead state does so too
pub none-fails : {m : Dictionary} {states : List State} {ends : List (Option ℕ)} → Stands m states ends → {i : ℕ}
    → i ≢ 0 → i < length states → parent states i ≢ 0 → FailsTo m (text states (parent states i)) None
    → FailsTo m (text states i) None
none-fails {m} {states} s {i} ne within above none =
    let p = s.tree.parents i (omega arith) within in
    subst (λ xs. FailsTo m xs None) (sym (text-child states s.tree (omega arith) within))
    (failure-stays_none (byte states i ∷ []) (text-some states s.tree (omega (arith, p.0)) above) none)

-- a state that is deeper and isn't final fails to where its byte leads from its parent's failure
pub more-fails : {m : Dictionary} {states : List State} {ends : List (Option ℕ)} → Stands m states ends
    → {i : ℕ} (from : ℕ) (r : Option ℕ) → i ≢ 0 → i < length states → IsFinalIn m.kind states i false
    → FailsTo m (text states (parent states i)) (Some (text states from)) → NextOf m states from (byte states i) r
    → FailsTo m (text states i) (option_map (text states) r)
more-fails {m} {states} s {i} from r ne within open_ above leads =
    let t = text-child states s.tree (omega arith) within in
    subst (λ xs. FailsTo m xs (option_map (text states) r)) (sym t)
    ((fails-next (byte states i) (option_map (text states) r) above
    (λ kind n own. unmatched-own s within (open_ kind).0 (subst (λ xs. IsOwn m xs n) (sym t) own))).0 leads)

-- the failure of a state, read from the list
pub fail-read : (fails : List (Option ℕ)) {i index : ℕ} {r : Option ℕ} → i < length fails → index ≡ i
    → r ≡ slice_index_or fails index r → slice_get fails i ≡ Some r
fail-read fails {i} {r} within at read =
    slice_get_read fails (length fails) i r refl within (subst (λ k. r ≡ slice_index_or fails k r) at read)

-- the failure of the parent, read from the list
pub above-read : {states : List State} {fails : List (Option ℕ)} {i index : ℕ} {s : State} {r : Option ℕ}
    → IsTree states → AreShallower states fails → i ≢ 0 → i < length states → s ≡ state_at states i → index ≡ s.parent
    → r ≡ slice_index_or fails index r → slice_get fails (parent states i) ≡ Some r
above-read {i} tree shallower ne within is at read =
    let less = (tree.parents i (omega arith) within).0 in
    fail-read _ (omega (arith, less, shallower.counted)) (at ∙ ap (λ z. z.parent) is) read

-- the failure of a state is shallower than the state
pub failure-less : {states : List State} {fails : List (Option ℕ)} {i from : ℕ} {r : Option ℕ} → IsTree states
    → AreShallower states fails → i ≢ 0 → i < length states → slice_get fails (parent states i) ≡ Some (Some from)
    → IsWithinDepth states (depth states from + 1) r → (f : ℕ) → r ≡ Some f
    → (f < length states) × (depth states f < depth states i)
failure-less {states} {i} {from} tree shallower ne within given shallow f is =
    let p = tree.parents i (omega arith) within in
    let h = shallow f is in
    (h.0, omega (arith, h.1, (shallower.shallower (parent states i) from given).1, p.1))

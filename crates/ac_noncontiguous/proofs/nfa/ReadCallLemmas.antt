-- What the read calls take from the tables.
use Rattle.std.proofs.Common.{◌≡◌, ◌≢◌, ℕ, zero, suc, ◌+◌, ◌-◌, ◌<◌, ◌≤◌, map, List, [], ◌∷◌, ◌++◌, length, take, drop, get_or, slice_get, Some, None, refl, sym, ap, subst, ◌∙◌, inl, inr, ⊎_elim, arith, length-drop}
use Rattle.std.specs.Coded.{le_prop, Coded-set, coded_ℕ, coded_list, coded_option}
use Rattle.std.proofs.Math.Logic.{∥∥₁_elim, ∥∥₁_map}
use Rattle.std.proofs.lemmas.Bool.{cases_lt, cases_eq}
use Rattle.std.proofs.lemmas.List.{nil_from_length, length-take-le, get_or-take, get_or-drop, length-map}
use Rattle.std.proofs.lemmas.Option.{slice_get_within, slice_get-get_or, slice_get-map, same_Some}
use Rattle.std.specs.Prelude.{option_map}
use Rattle.ac_automaton.specs.Skip.{last_special_of}
use Rattle.ac_input.specs.declared.search.Anchored.{Anchored}
use Rattle.ac_input.specs.declared.search.Anchored.TheVariants.{No, Yes}
use Rattle.ac_input.specs.declared.steps.Steps.{Steps}
use Rattle.ac_input.specs.Dictionary.{Dictionary, BeginsEntered}
use Rattle.ac_input.specs.Failure.{AreOnce}
use Rattle.ac_input.specs.Input.{is_anchored}
use Rattle.ac_input.specs.Limits.{HasStates}
use Rattle.ac_input.specs.Pairing.{IsDistinct}
use Rattle.ac_input.specs.States.{LeadsTo, FailsTo}
use Rattle.ac_input.proofs.lemmas.ClassLemmas.{unknown-alike, class-unknown}
use Rattle.ac_input.proofs.lemmas.ContainsLemmas.{Contains-nil}
use Rattle.ac_input.proofs.lemmas.DeadLemmas.{too_many, dead-anchored, dead-failing}
use Rattle.ac_input.proofs.lemmas.LeadsLemmas.{fails-state, leads-itself, leads-one, leads-some}
use Rattle.ac_input.proofs.lemmas.OnceLemmas.{list-once}
use Rattle.ac_automaton.specs.Named.{IsNamed}
use Rattle.ac_automaton.proofs.automaton.NamedLemmas.{named-read}
use Rattle.ac_noncontiguous.specs.declared.nfa.NFA.{NFA}
use Rattle.ac_noncontiguous.specs.declared.nfa.tables.Transition.{Transition}
use Rattle.ac_noncontiguous.specs.declared.nfa.tables.Tables.{Tables}
use Rattle.ac_noncontiguous.specs.Nfa.{state_of, no_transition, byte_at, next_at, IsEdge, AreTexts, AreTransitions, AreRows, AreFailures, AreLists, kept_of, AreTables, edge_of}
use Rattle.ac_noncontiguous.specs.Nfa.Lookups.{IsKept, IsVisited, other_start, naming_of, LeadsNext, AreSame}
use Rattle.ac_noncontiguous.specs.Nfa.Reads.{dictionary, matches_at, IsRead, named_states}
use Rattle.ac_noncontiguous.specs.Nfa.ReadCalls.{state_len, fail_in, depth_in, edges_in, special_in, CountsIn, TextsBegin, FailsIn, ListsIn, IsFull, AreLeading, MayBeMet, LeadsIn, AreRead, IsDeepIn, IsReadable, classes_in, OfTexts, AreOrdered, AreEdges, AreBounds}
use Rattle.ac_noncontiguous.proofs.nfa.LookupLemmas.{range-within}
use Rattle.ac_noncontiguous.proofs.nfa.NextLemmas.{by-number, state-some, state-none, is-dead, is-met, met-is, of-names}
use Rattle.ac_noncontiguous.proofs.nfa.NamesLemmas.{names-one}
use Rattle.ac_noncontiguous.proofs.nfa.ReadLemmas.{tables-start, all-names}
use Rattle.ac_input.specs.Alphabet.Classes.{ClassesLeadAlike}

-- a number below the count of states is that of a state of the tables
pub below-kept : (nfa : NFA) {sid : ℕ} → sid < state_len nfa → IsKept nfa.tables sid
below-kept nfa below = ∥∥₁_map nfa.stands (λ w. (dictionary nfa, w.0, w.1, omega (arith, w.1.counted, below)))

-- the patterns of a state are within the list of all patterns
pub kept-matches : {tables : Tables} {i : ℕ} → IsKept tables i
    → (kept_of tables.states.items i).matches + (kept_of tables.states.items i).matches_len
    ≤ length tables.matches.items
kept-matches {i} h = ∥∥₁_elim h le_prop (λ w. w.2.lists.ranges i w.3)

-- the edge at a place is that of a transition
edge-at : (ts : List Transition) (from : ℕ) {n k : ℕ} → from + n ≤ length ts → k < n
    → slice_get (map edge_of (take n (drop from ts))) k ≡ Some (byte_at ts (from + k), next_at ts (from + k))
edge-at ts from {n} {k} within lt =
    let rest = length-drop from ts in
    let long = length-take-le n (drop from ts) (omega (arith, rest)) in
    let here = slice_get-get_or (take n (drop from ts)) k no_transition (omega (arith, long)) in
    let same : get_or (take n (drop from ts)) k no_transition ≡ get_or ts (from + k) no_transition =
    get_or-take n (drop from ts) k no_transition lt ∙ get_or-drop from ts k no_transition in
    slice_get-map edge_of (take n (drop from ts)) k ∙ (ap (option_map edge_of) here ∙ ap (λ t. Some (edge_of t)) same)

-- a state has as many edges as transitions
edges-long : (ts : List Transition) (from : ℕ) {n : ℕ} → from + n ≤ length ts
    → length (map edge_of (take n (drop from ts))) ≡ n
edges-long ts from {n} within = let rest = length-drop from ts in
    length-map (take n (drop from ts)) edge_of ∙ length-take-le n (drop from ts) (omega (arith, rest))

-- an edge is that of a transition
edge-is : (ts : List Transition) (from : ℕ) {n k byte next : ℕ} → from + n ≤ length ts
    → slice_get (map edge_of (take n (drop from ts))) k ≡ Some (byte, next)
    → (k < n) × (byte_at ts (from + k) ≡ byte) × (next_at ts (from + k) ≡ next)
edge-is ts from {n} {k} {byte} {next} within is =
    let long = edges-long ts from within in
    let lt : k < n = omega (arith, slice_get_within (map edge_of (take n (drop from ts))) k (byte, next) is, long) in
    let e : (byte_at ts (from + k), next_at ts (from + k)) ≡ (byte, next) =
    same_Some (byte_at ts (from + k), next_at ts (from + k)) (byte, next) (sym (edge-at ts from within lt) ∙ is) in
    (lt, ap (λ x. x.0) e, ap (λ x. x.1) e)

-- What the tables give for the transitions of a state, if the states stand for these texts.
record EdgesOf (nfa : NFA) (text : ℕ → List ℕ) (sid : ℕ) (edges : List (ℕ × ℕ)) : Type 0 where
  within : (k byte next : ℕ) → slice_get edges k ≡ Some (byte, next) → (byte < 256) × (next < state_len nfa)
  rising : (j k b c n o : ℕ) → j < k → slice_get edges j ≡ Some (b, n) → slice_get edges k ≡ Some (c, o) → b < c
  all : IsFull nfa sid → length edges ≡ 256
  none : sid ≡ 1 → length edges ≡ 0
  some : (k byte next : ℕ) → ¬ IsFull nfa sid → slice_get edges k ≡ Some (byte, next) → 1 < next
  leading : AreLeading nfa text sid edges

-- the transitions that are read for a state lead where their bytes do
edges-tables : (nfa : NFA) (text : ℕ → List ℕ) (sid : ℕ) → AreTables (dictionary nfa) text nfa.tables
    → sid < state_len nfa → EdgesOf nfa text sid (edges_in nfa sid)
edges-tables nfa text sid t below =
    let states = nfa.tables.states.items in
    let ts = nfa.tables.transitions.items in
    let counted = t.counted in
    let count : t.len ≡ state_len nfa = omega (arith, counted) in
    let sid_in : sid < t.len = omega (arith, counted, below) in
    let up = t.transitions.ranges sid sid_in in
    let end = range-within t sid_in in
    let from = (kept_of states sid).transitions in
    let n = (kept_of states (sid + 1)).transitions - (kept_of states sid).transitions in
    let within : from + n ≤ length ts = omega (arith, up, end) in
    let none_long : sid ≡ 1 → length (edges_in nfa sid) ≡ 0 = λ is_fail.
    let none : (kept_of states (sid + 1)).transitions
    ≡ (kept_of states sid).transitions = ap (λ i. (kept_of states (i + 1)).transitions) is_fail
    ∙ (t.transitions.none ∙ ap (λ i. (kept_of states i).transitions) (sym is_fail)) in
    edges-long ts from within ∙ omega (arith, none) in
    let longer : (k byte next : ℕ) → 1 < sid → ¬ IsFull nfa sid → slice_get (edges_in nfa sid) k ≡ Some (byte, next)
    → (1 < next) × BeginsEntered (dictionary nfa) (text sid ++ byte ∷ []) = λ k byte next past not_full is.
    let e = edge-is ts from within is in
    let place : (from ≤ from + k)
    × (from + k < (kept_of states (sid + 1)).transitions) = (omega arith, omega (arith, e.0, up)) in
    let begins = t.transitions.longer sid (from + k) past sid_in (λ is_start. not_full (inr (inl is_start)))
    (λ is_next. not_full (inr (inr is_next))) place in
    let edge = t.transitions.edges sid (from + k) sid_in place in
    let child = edge.1.child past begins in
    (omega (arith, child.0, e.2), subst (λ b. BeginsEntered (dictionary nfa) (text sid ++ b ∷ [])) e.1 begins) in
    record {
      within = λ k byte next is.
          let e = edge-is ts from within is in
          let edge = t.transitions.edges sid (from + k) sid_in (omega arith, omega (arith, e.0, up)) in
          let small = t.transitions.small sid (from + k) sid_in (omega arith, omega (arith, e.0, up)) in
          (omega (arith, small, e.1), omega (arith, edge.0, e.2, count));
      rising = λ j k b c a o lt is other.
          let e = edge-is ts from within is in
          let f = edge-is ts from within other in
          let less = t.transitions.rising sid (from + j) (from + k) sid_in (omega arith, omega (arith, e.0, up))
          (omega arith, omega (arith, f.0, up)) (omega (arith, lt)) in
          omega (arith, less, e.1, f.1);
      all = λ whole. let every = t.transitions.all sid whole in let long = edges-long ts from within in
          omega (arith, every, long);
      none = none_long;
      some = λ k byte next not_full is.
          let e = edge-is ts from within is in
          ⊎_elim
          (λ (past : 1 < sid). (longer k byte next past not_full is).0)
          (λ (small : sid ≤ 1).
          ⊎_elim
          (λ (dead : sid ≡ 0). absurd (not_full (inl dead)))
          (λ (fail : sid ≢ 0). let one : sid ≡ 1 = omega (arith, small, fail) in let long = edges-long ts from within in
          let zero_long = none_long one in absurd (omega (arith, e.0, long, zero_long)))
          (cases_eq sid 0))
          (cases_lt 1 sid);
      leading = record {
        lead = λ k byte next is.
            let e = edge-is ts from within is in
            let edge = t.transitions.edges sid (from + k) sid_in (omega arith, omega (arith, e.0, up)) in
            subst (λ c. IsEdge (dictionary nfa) c nfa.tables.start text sid byte next) count
            (subst (λ b. IsEdge (dictionary nfa) t.len nfa.tables.start text sid b next) e.1
            (subst (λ j. IsEdge (dictionary nfa) t.len nfa.tables.start text sid (byte_at ts (from + k)) j) e.2
            edge.1));
        missing = λ byte fits none.
            subst (λ c. IsEdge (dictionary nfa) c nfa.tables.start text sid byte 1) count
            (t.transitions.missing sid byte sid_in fits (λ p place same.
            let back : from + (p - from) ≡ p = omega (arith, place.0) in
            let at = edge-at ts from within (omega (arith, place.0, place.1)) in
            none (p - from) (next_at ts (from + (p - from)))
            (at ∙ ap (λ b. Some (b, next_at ts (from + (p - from)))) (ap (byte_at ts) back ∙ same))));
        longer = λ k byte next past not_full is. (longer k byte next past not_full is).1;
      };
    }

pub edges-lead : {nfa : NFA} (sid : ℕ) → sid < state_len nfa → AreEdges nfa sid (edges_in nfa sid)
edges-lead {nfa} sid below =
    let of =
    λ (w : (text : ℕ → List ℕ) × AreTables (dictionary nfa) text nfa.tables). edges-tables nfa w.0 sid w.1 below in
    record {
      within =
          λ k byte next is. (
            ∥∥₁_elim nfa.stands le_prop (λ w. ((of w).within k byte next is).0),
            ∥∥₁_elim nfa.stands le_prop (λ w. ((of w).within k byte next is).1),
          );
      rising = λ j k b c a o lt is other. ∥∥₁_elim nfa.stands le_prop (λ w. (of w).rising j k b c a o lt is other);
      all = λ whole. ∥∥₁_elim nfa.stands (Coded-set coded_ℕ (length (edges_in nfa sid)) 256) (λ w. (of w).all whole);
      none = λ is_fail. nil_from_length (edges_in nfa sid)
          (∥∥₁_elim nfa.stands (Coded-set coded_ℕ (length (edges_in nfa sid)) 0) (λ w. (of w).none is_fail));
      some = λ k byte next not_full is. ∥∥₁_elim nfa.stands le_prop (λ w. (of w).some k byte next not_full is);
      leading = λ text t. (edges-tables nfa text sid t below).leading;
    }

-- ---- texts

pub texts-begin : (nfa : NFA) → TextsBegin nfa
texts-begin nfa text t sid past below = t.texts.begin sid past (omega (arith, t.counted, below))

-- ---- failures

-- the numbers below two are 0 and 1
below-two : (P : ℕ → Type 0) (sid : ℕ) → P 0 → P 1 → sid < 2 → P sid
below-two P zero zeroth one small = zeroth
below-two P (suc zero) zeroth one small = one
below-two P (suc (suc i)) zeroth one small = absurd (omega arith)

-- the failure of a state is shallower, unless it is the dead state
fail-shallower : (nfa : NFA) (text : ℕ → List ℕ) (sid : ℕ) → (t : AreTables (dictionary nfa) text nfa.tables)
    → sid < t.len → 1 < fail_in nfa sid → depth_in nfa (fail_in nfa sid) < depth_in nfa sid
fail-shallower nfa text sid t within some =
    ⊎_elim
    (λ (past : 1 < sid).
    let fail = fail_in nfa sid in
    let w = t.failures.within sid within in
    let fails =
    subst (FailsTo (dictionary nfa) (text sid)) (state-some text fail some) (t.failures.fails sid past within) in
    let shorter = (fails-state fails).2 in
    let deep = t.failures.depths sid past within in
    let shallow = t.failures.depths fail some w.0 in
    omega (arith, shorter, deep, shallow))
    (λ (small : sid ≤ 1). let dead = below-two (λ i. fail_in nfa i ≡ 0) sid t.failures.none.0 t.failures.none.1
    (omega (arith, small)) in absurd (omega (arith, dead, some)))
    (cases_lt 1 sid)

-- the state to which one fails
pub fails-in : (nfa : NFA) (sid : ℕ) → sid < state_len nfa → FailsIn nfa sid (fail_in nfa sid)
fails-in nfa sid below =
    let inside = λ (w : (text : ℕ → List ℕ) × AreTables (dictionary nfa) text nfa.tables). let within : sid < w.1.len =
    omega (arith, w.1.counted, below) in within in
    record {
      within =
          ∥∥₁_elim nfa.stands le_prop
          (λ w. let f = w.1.failures.within sid (inside w) in omega (arith, f.0, w.1.counted));
      stands = λ e. ∥∥₁_elim nfa.stands (λ x y. absurd x) (λ w. (w.1.failures.within sid (inside w)).1 e);
      unanchored = λ e. ∥∥₁_elim nfa.stands (λ x y. absurd x) (λ w. (w.1.failures.within sid (inside w)).2 e);
      shallower = λ some. ∥∥₁_elim nfa.stands le_prop (λ w. fail-shallower nfa w.0 sid w.1 (inside w) some);
      dead = λ small. ∥∥₁_elim nfa.stands (Coded-set coded_ℕ (fail_in nfa sid) 0)
          (λ w. below-two (λ i. fail_in nfa i ≡ 0) sid w.1.failures.none.0 w.1.failures.none.1 small);
      fails = λ text t past. t.failures.fails sid past (omega (arith, t.counted, below));
    }

-- ---- how many states there are

pub counts-in : {nfa : NFA} {states : ℕ} → states ≡ state_len nfa → CountsIn nfa states
counts-in {nfa} {states} is =
    record {
      counted =
          ∥∥₁_map nfa.stands (λ w.
          let counted : w.1.len ≡ states = omega (arith, w.1.counted, is) in
          subst (HasStates (dictionary nfa)) counted w.1.has);
      few = ∥∥₁_elim nfa.stands le_prop (λ w. let few = w.1.few in omega (arith, w.1.counted, is, few));
    }

-- ---- the patterns of a state

-- how many patterns match at a state
matches-long : (nfa : NFA) {text : ℕ → List ℕ} {sid : ℕ} → (t : AreTables (dictionary nfa) text nfa.tables)
    → sid < t.len → length (matches_at nfa sid) ≡ (kept_of nfa.tables.states.items sid).matches_len
matches-long nfa {sid} t within =
    let all = nfa.tables.matches.items in
    let from = (kept_of nfa.tables.states.items sid).matches in
    let len = (kept_of nfa.tables.states.items sid).matches_len in
    length-take-le len (drop from all) (omega (arith, t.lists.ranges sid within, length-drop from all))

-- that a list has no repeats is a proposition
distinct-prop : (xs : List ℕ) → IsProp (IsDistinct xs)
distinct-prop [] = λ x y. refl
distinct-prop (x ∷ xs) = let rest = distinct-prop xs in hlevel rest

-- the list of a state has each pattern once
pub lists-in : (nfa : NFA) (sid : ℕ) → sid < state_len nfa → ListsIn nfa sid (matches_at nfa sid)
lists-in nfa sid below =
    let ns = matches_at nfa sid in
    let m = dictionary nfa in
    let inside = λ (w : (text : ℕ → List ℕ) × AreTables (dictionary nfa) text nfa.tables). let within : sid < w.1.len =
    omega (arith, w.1.counted, below) in within in
    let empty : sid < 2 → ∥ ((text : ℕ → List ℕ) × AreTables (dictionary nfa) text nfa.tables) ∥₁
    → length ns ≡ 0 = λ small h. ∥∥₁_elim h (Coded-set coded_ℕ (length ns) 0)
    (λ w. matches-long nfa w.1 (inside w)
    ∙ below-two (λ i. (kept_of nfa.tables.states.items i).matches_len ≡ 0) sid w.1.lists.none.0 w.1.lists.none.1
    small) in
    let once : ((text : ℕ → List ℕ) × AreTables (dictionary nfa) text nfa.tables) → AreOnce m ns = λ w.
    ⊎_elim
    (λ (past : 1 < sid). list-once m (w.0 sid) ns (w.1.lists.lists sid past (inside w)))
    (λ (small : sid ≤ 1). subst (AreOnce m) (sym (nil_from_length ns (empty (omega (arith, small)) ∣ w ∣₁)))
    (record { known = λ n c. absurd (Contains-nil c); once = tt; few = omega arith }))
    (cases_lt 1 sid) in
    let few : length ns ≤ length m.patterns = ∥∥₁_elim nfa.stands le_prop (λ w. (once w).few) in
    record {
      once = record {
        known = λ n c. ∥∥₁_elim nfa.stands le_prop (λ w. (once w).known n c);
        once = ∥∥₁_elim nfa.stands (distinct-prop ns) (λ w. (once w).once);
        few = few;
      };
      few = ∥∥₁_elim nfa.within le_prop (λ w. let most = w.patterns in omega (arith, few, most));
      none = λ small. nil_from_length ns (empty small nfa.stands);
      list = λ text t past. t.lists.lists sid past (omega (arith, t.counted, below));
    }

-- ---- the numbers that divide the states into groups

pub special-in : (nfa : NFA) → OfTexts nfa (λ text. AreBounds nfa text (special_in nfa))
special-in nfa text t =
    let start = nfa.tables.start in
    let p = t.texts.starts in
    let counted = t.counted in
    let kept : (sid : ℕ) → sid < state_len nfa → sid < t.len = λ sid below. omega (arith, counted) in
    record {
      past = p.0;
      next = refl;
      within = omega (arith, p.1, counted);
      empty = λ sid past below. (
        (λ none. t.texts.others sid past (kept sid below) none),
        (λ start. ⊎_elim (λ one. ap text one ∙ p.2) (λ next. ap text next ∙ p.3) start),
      );
      matching = λ sid past below.
          let long = matches-long nfa t (kept sid below) in
          let some = t.lists.some sid past (kept sid below) in
          ((λ has. some.0 (omega (arith, long))), (λ low. omega (arith, long, some.1 low)));
      last_match = t.lists.greatest;
      without_prefilter = λ none. nfa.special
          ∙ ap (λ f. last_special_of f (nfa.tables.start + 1) nfa.tables.max_match) none;
      with_prefilter = λ f held. nfa.special
          ∙ ap (λ f. last_special_of f (nfa.tables.start + 1) nfa.tables.max_match) held;
    }

-- ---- the order of the states

pub ordered-in : {nfa : NFA} → OfTexts nfa (AreOrdered nfa)
ordered-in {nfa} text t =
    let counted = t.counted in
    let count : t.len ≡ state_len nfa = omega (arith, counted) in
    record {
      apart = λ i j past lt below same. t.texts.apart i j past lt (omega (arith, below, count)) same;
      all = λ u is_prefix. let h = t.texts.all u is_prefix in (h.0, h.1, omega (arith, h.2, count), h.3);
      deeper = λ i j lt below run.
          let inside : j < t.len = omega (arith, below, count) in
          let past : 1 < i = ⊎_elim (λ (front : (1 < i) × (j < nfa.tables.start)). front.0)
          (λ (behind : nfa.tables.start + 1 < i). omega (arith, behind)) run in
          let deep = t.failures.depths j (omega (arith, past, lt)) inside in
          let shallow = t.failures.depths i past (omega (arith, lt, inside)) in
          let up = t.texts.deeper i j lt inside run in
          omega (arith, deep, shallow, up);
      by_first = λ i j lt below run level.
          let inside : j < t.len = omega (arith, below, count) in
          let past : 1 < i = ⊎_elim (λ (front : (1 < i) × (j < nfa.tables.start)). front.0)
          (λ (behind : nfa.tables.start + 1 < i). omega (arith, behind)) run in
          let deep = t.failures.depths j (omega (arith, past, lt)) inside in
          let shallow = t.failures.depths i past (omega (arith, lt, inside)) in
          t.texts.by_first i j lt inside run (omega (arith, deep, shallow, level));
    }

-- ---- one more byte

-- a state that a search may meet may be looked up
pub met-visited : {nfa : NFA} {anchored : Anchored} {sid : ℕ} → MayBeMet nfa anchored sid
    → IsVisited nfa.tables (is_anchored anchored) sid
met-visited {nfa} met = (below-kept nfa met.within, met.stands, met.own)

-- the byte leads from the state to wherever its look-up found
pub leads-in : {nfa : NFA} {anchored : Anchored} {sid byte next : ℕ} {before after : Steps} → MayBeMet nfa anchored sid
    → LeadsNext nfa.tables (is_anchored anchored) 0 sid byte next before after → LeadsIn nfa anchored sid byte next
leads-in {nfa} {anchored} {sid} {next} met h =
    let below = met.within in
    let a = is_anchored anchored in
    let start = nfa.tables.start in
    let of = λ (w : (text : ℕ → List ℕ) × AreTables (dictionary nfa) text nfa.tables).
    (h (dictionary nfa) (naming_of w.0 w.1.len start) (w.0, w.1, refl)
    (is-met w.0 w.1.len start a sid (omega (arith, w.1.counted, below)) met.stands met.own)).0 in
    let there =
    λ (w : (text : ℕ → List ℕ) × AreTables (dictionary nfa) text nfa.tables). met-is w.0 start a (of w).met in
    record {
      met = record {
        within = ∥∥₁_elim nfa.stands le_prop (λ w. let n = (there w).0 in omega (arith, w.1.counted, n));
        stands = λ e. ∥∥₁_elim nfa.stands (λ x y. absurd x) (λ w. (there w).1 e);
        own = λ e. ∥∥₁_elim nfa.stands (λ x y. absurd x) (λ w. (there w).2 e);
      };
      dead = λ is. ∥∥₁_elim nfa.stands (Coded-set coded_ℕ next 0)
          (λ w. is-dead w.0 (there w).1 ((of w).dead (state-none w.0 is)));
      leads = λ text t past. (of (text, t)).leads (text sid) (state-some text sid past);
    }

-- ---- which states are read

-- a state that stands for a text is reached by reading the text
stands-read : (nfa : NFA) (names : ℕ → List ℕ) → AreTables (dictionary nfa) names nfa.tables
    → (anchored : Anchored) (text : List ℕ) (sid : ℕ) → MayBeMet nfa anchored sid
    → LeadsTo (dictionary nfa) (is_anchored anchored) text (state_of names sid) → IsRead nfa anchored text sid
stands-read nfa names t anchored text sid met leads =
    let below = met.within in
    named-read (named_states nfa) (naming_of names t.len nfa.tables.start) anchored text sid (all-names nfa)
    (names, t, refl)
    (record {
      met = is-met names t.len nfa.tables.start (is_anchored anchored) sid (omega (arith, t.counted, below)) met.stands
          met.own;
      leads = leads;
    })

-- each state past 1 is reached by reading its own text
itself-read : (nfa : NFA) (names : ℕ → List ℕ) → AreTables (dictionary nfa) names nfa.tables
    → (anchored : Anchored) (sid : ℕ) → 1 < sid → MayBeMet nfa anchored sid
    → (text : List ℕ) × IsRead nfa anchored text sid
itself-read nfa names t anchored sid past met =
    let below = met.within in
    let b = t.texts.begin sid past (omega (arith, t.counted, below)) in
    let leads = leads-itself b.0 in (
      names sid,
      stands-read nfa names t anchored (names sid) sid met
          (subst (LeadsTo (dictionary nfa) (is_anchored anchored) (names sid))
          (ap Some b.1 ∙ sym (state-some names sid past))
          leads),
    )

-- the dead state may be met from both starts
zero-met : (nfa : NFA) (anchored : Anchored) → MayBeMet nfa anchored 0
zero-met nfa anchored =
    let start = tables-start nfa.stands in
    record {
      within = ∥∥₁_elim nfa.stands le_prop (λ w. let s = w.1.texts.starts.1 in omega (arith, w.1.counted, s));
      stands = λ e. omega (arith, e);
      own = by anchored start;
    }
  where
    by : (which : Anchored) → 1 < nfa.tables.start → 0 ≢ other_start nfa.tables.start (is_anchored which)
    by No start e = omega (arith, start, e)
    by Yes start e = omega (arith, start, e)

-- the state to which a state fails is reached from the unanchored start
fail-read : (nfa : NFA) (names : ℕ → List ℕ) → AreTables (dictionary nfa) names nfa.tables → (sid : ℕ) → 1 < sid
    → sid < state_len nfa → ¬ IsFull nfa sid → (fail : ℕ) → fail ≡ fail_in nfa sid
    → (text : List ℕ) × IsRead nfa No text fail
fail-read nfa names t sid past below not_full zero is =
    let within : sid < t.len = omega (arith, t.counted, below) in
    let failure : FailsTo (dictionary nfa) (names sid) None = subst
    (λ k. FailsTo (dictionary nfa) (names sid) (state_of names k)) (sym is) (t.failures.fails sid past within) in
    let some : names sid ≢ [] = λ none.
    ⊎_elim (λ (one : sid ≡ nfa.tables.start). not_full (inr (inl one)))
    (λ (next : sid ≡ nfa.tables.start + 1). not_full (inr (inr next))) (t.texts.others sid past within none) in (
      names sid ++ too_many (dictionary nfa),
      stands-read nfa names t No (names sid ++ too_many (dictionary nfa)) 0 (zero-met nfa No)
          (dead-failing some failure),
    )
fail-read nfa names t sid past below not_full (suc zero) is =
    let within : sid < t.len = omega (arith, t.counted, below) in
    absurd ((t.failures.within sid within).1 (sym is))
fail-read nfa names t sid past below not_full (suc (suc i)) is =
    let within : sid < t.len = omega (arith, t.counted, below) in
    let w = t.failures.within sid within in
    itself-read nfa names t No (suc (suc i)) (omega arith)
    (record { within = omega (arith, w.0, t.counted, is); stands = λ e. omega (arith, e); own = λ e. w.2 (sym is ∙ e) })

-- A proposition that follows from a state that is reached, whatever the states stand for, holds.
read-holds : {P : Type 0} (nfa : NFA) {anchored : Anchored} {text : List ℕ} {sid : ℕ} → ((x y : P) → x ≡ y)
    → ((names : ℕ → List ℕ) (t : AreTables (dictionary nfa) names nfa.tables) → sid < t.len → sid ≢ 1
    → sid ≢ other_start nfa.tables.start (is_anchored anchored)
    → LeadsTo (dictionary nfa) (is_anchored anchored) text (state_of names sid) → P) → IsRead nfa anchored text sid → P
read-holds {P} nfa {anchored} {text} {sid} prop follows reads =
    ∥∥₁_elim reads.reached prop (λ w.
    of-names (λ names. IsNamed (dictionary nfa) names (is_anchored anchored) text sid → P) (λ names t named.
    let met = met-is names nfa.tables.start (is_anchored anchored) named.met in
    follows names t met.0 met.1 met.2 named.leads) w.0 w.1 w.2)

-- a text that is read up to a state leads to the text for which the state stands
read-named : (nfa : NFA) (names : ℕ → List ℕ) → AreTables (dictionary nfa) names nfa.tables
    → (anchored : Anchored) (text : List ℕ) (sid : ℕ) → IsRead nfa anchored text sid
    → MayBeMet nfa anchored sid × LeadsTo (dictionary nfa) (is_anchored anchored) text (state_of names sid)
read-named nfa names t anchored text sid reads =
    let m = dictionary nfa in
    let some = leads-some in
    let same : some.0 ≡ state_of names sid = read-holds nfa
    (Coded-set (coded_option (coded_list coded_ℕ)) some.0 (state_of names sid)) (λ others u within stands own leads.
    let one = leads-one m (is_anchored anchored) text some.0 (state_of others sid) some.1 leads in
    one ∙ ⊎_elim
    (λ (none : (sid ≡ 0) × LeadsTo m (is_anchored anchored) text None). state-none others none.0
    ∙ sym (state-none names none.0))
    (λ (more : (1 < sid) × LeadsTo m (is_anchored anchored) text (Some (others sid))). state-some others sid more.0
    ∙ (ap Some (names-one u t more.0 within) ∙ sym (state-some names sid more.0)))
    (by-number others (LeadsTo m (is_anchored anchored) text) sid stands leads)) reads in (
      record {
        within =
            read-holds nfa le_prop
            (λ others u within stands own leads. let counted = u.counted in omega (arith, counted, within)) reads;
        stands = λ e. read-holds nfa (λ x y. absurd x) (λ others u within stands own leads. stands e) reads;
        own = λ e. read-holds nfa (λ x y. absurd x) (λ others u within stands own leads. own e) reads;
      },
      subst (LeadsTo m (is_anchored anchored) text) same some.1,
    )

pub are-read : {nfa : NFA} → AreRead nfa
are-read {nfa} =
    record {
      stands = λ names t anchored text sid met leads. stands-read nfa names t anchored text sid met leads;
      named = λ names t anchored text sid reads. read-named nfa names t anchored text sid reads;
      each = λ anchored sid past met. ∥∥₁_map nfa.stands (λ w. itself-read nfa w.0 w.1 anchored sid past met);
      dead = ∥∥₁_map nfa.stands
          (λ w. (
            too_many (dictionary nfa),
            stands-read nfa w.0 w.1 Yes (too_many (dictionary nfa)) 0 (zero-met nfa Yes) dead-anchored,
          ));
      fails = λ sid past below not_full.
          ∥∥₁_map nfa.stands (λ w. fail-read nfa w.0 w.1 sid past below not_full (fail_in nfa sid) refl);
    }

-- ---- classes

-- bytes of one class lead alike
pub alike-in : (nfa : NFA) → ClassesLeadAlike (dictionary nfa) (classes_in nfa)
alike-in nfa b c b_in c_in one =
    let m = dictionary nfa in
    unknown-alike m (λ ne. (
      (λ stands. ∥∥₁_elim nfa.classed (λ x y. absurd x) (λ are. (class-unknown m are b_in c_in one ne).0 stands)),
      (λ stands. ∥∥₁_elim nfa.classed (λ x y. absurd x) (λ are. (class-unknown m are b_in c_in one ne).1 stands)),
    ))

-- ---- copies

-- a copy of the tables of a dictionary is that of the same dictionary
pub same-tables : {m : Dictionary} {old new : Tables} → AreSame old new
    → ∥ ((text : ℕ → List ℕ) × AreTables m text old) ∥₁ → ∥ ((text : ℕ → List ℕ) × AreTables m text new) ∥₁
same-tables {m} {old} {new} e h =
    ∥∥₁_map h (λ w.
    let text = w.0 in
    let t = w.1 in (
      text,
      record {
        len = t.len;
        counted = ap length e.states ∙ t.counted;
        few = t.few;
        has = t.has;
        texts = subst (λ s. AreTexts m t.len s text) (sym e.start) t.texts;
        transitions =
            subst (λ s. AreTransitions m t.len s text new.states.items new.transitions.items) (sym e.start)
            (subst (λ states. AreTransitions m t.len old.start text states new.transitions.items) (sym e.states)
            (subst (λ ts. AreTransitions m t.len old.start text old.states.items ts) (sym e.transitions)
            t.transitions));
        rows =
            subst (λ s. AreRows m t.len s text new.states.items new.classes new.rows.items) (sym e.start)
            (subst (λ states. AreRows m t.len old.start text states new.classes new.rows.items) (sym e.states)
            (subst (λ classes. AreRows m t.len old.start text old.states.items classes new.rows.items) (sym e.classes)
            (subst (λ rows. AreRows m t.len old.start text old.states.items old.classes rows) (sym e.rows) t.rows)));
        failures =
            subst (λ s. AreFailures m t.len s text new.states.items) (sym e.start)
            (subst (λ states. AreFailures m t.len old.start text states) (sym e.states) t.failures);
        lists =
            subst (λ s. AreLists m t.len s new.max_match text new.states.items new.matches.items) (sym e.start)
            (subst (λ k. AreLists m t.len old.start k text new.states.items new.matches.items) (sym e.max_match)
            (subst (λ states. AreLists m t.len old.start old.max_match text states new.matches.items) (sym e.states)
            (subst (λ matches. AreLists m t.len old.start old.max_match text old.states.items matches) (sym e.matches)
            t.lists)));
      },
    ))

-- ---- the whole

-- the depth of a state is the number of bytes of its text
pub deep-in : (nfa : NFA) (sid : ℕ) → sid < state_len nfa → IsDeepIn nfa sid (depth_in nfa sid)
deep-in nfa sid below text t = (
  λ small. below-two (λ i. depth_in nfa i ≡ 0) sid t.failures.flat.0 t.failures.flat.1 small,
  λ past. t.failures.depths sid past (omega (arith, t.counted, below)),
)

-- the automaton is readable by its read calls
pub readable-in : {nfa : NFA} → IsReadable nfa
readable-in {nfa} = record {
  stand = nfa.stands;
  begin = texts-begin nfa;
  bounds = special-in nfa;
  counted = counts-in refl;
  within = nfa.within;
  ordered = ordered-in;
  classes = nfa.classed;
  paired = nfa.paired;
  fails = fails-in nfa;
  deep = deep-in nfa;
  edges = edges-lead;
  lists = lists-in nfa;
}

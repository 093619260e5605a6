-- What the number of a state, and its patterns, say about the text that was read.
use Rattle.std.proofs.Common.{◌≡◌, ◌≢◌, ◌↔◌, ℕ, ◌+◌, ◌<◌, ◌≤◌, Bool, true, false, IsTrue, List, [], ◌∷◌, length, take, drop, get_or, slice_get, None, Some, inl, inr, ⊎_elim, refl, sym, ap, subst, ◌∙◌, arith, length-drop}
use Rattle.std.specs.Coded.{le_prop, Coded-set, coded_ℕ, coded_list}
use Rattle.std.proofs.Math.Logic.{∥∥₁_elim, ∥∥₁_map, ∥∥₁_prop}
use Rattle.std.proofs.lemmas.Bool.{cases_lt, cases_eq}
use Rattle.std.proofs.lemmas.List.{length-take-le, get_or-take, get_or-drop}
use Rattle.std.proofs.lemmas.Option.{slice_get_read}
use Rattle.ac_input.specs.declared.search.Anchored.{Anchored}
use Rattle.ac_input.specs.declared.steps.Steps.{Steps}
use Rattle.ac_input.specs.Dictionary.{Dictionary}
use Rattle.ac_input.specs.Failure.{IsList}
use Rattle.ac_input.specs.Input.{is_anchored}
use Rattle.ac_automaton.specs.Automaton.{IsReached, IsState, AtEach, Leads, IsReadCost, TellsDead, TellsStart}
use Rattle.ac_automaton.specs.Named.{IsFirst}
use Rattle.ac_automaton.proofs.lemmas.CursorLemmas.{list-none}
use Rattle.ac_automaton.proofs.automaton.NamedLemmas.{reached-met, state-met, read-start, read-next, read-cost, read-dead, read-starts, read-known, AllNames, AreNames}
use Rattle.ac_automaton.proofs.automaton.SpecialLemmas.{ranked-special}
use Rattle.ac_automaton.proofs.automaton.TestLemmas.{start-has, start-is, start-none}
use Rattle.ac_noncontiguous.specs.declared.nfa.NFA.{NFA}
use Rattle.ac_noncontiguous.specs.declared.nfa.tables.State.{State}
use Rattle.ac_noncontiguous.specs.declared.nfa.tables.Tables.{Tables}
use Rattle.ac_noncontiguous.specs.Nfa.{state_of, list_of, AreTables, kept_of}
use Rattle.ac_noncontiguous.specs.Nfa.Lookups.{IsKept, IsVisited, other_start, naming_of, LeadsNext}
use Rattle.ac_noncontiguous.specs.Nfa.Reads.{dictionary, built_as, matches_at, is_start_at, IsRead, named_states}
use Rattle.ac_noncontiguous.proofs.nfa.NextLemmas.{state-some, state-none, is-dead, is-text, is-met, met-is, of-names}

-- ---- where the starts stand

-- the greatest state that matches is at most the anchored start
pub tables-top : {m : Dictionary} {tables : Tables} → ∥ ((text : ℕ → List ℕ) × AreTables m text tables) ∥₁
    → tables.max_match ≤ tables.start + 1
tables-top h = ∥∥₁_elim h le_prop (λ w. let greatest = w.1.lists.greatest in grind arith)

-- the greatest state that matches is at least the state before the unanchored start
pub tables-next : {m : Dictionary} {tables : Tables} → ∥ ((text : ℕ → List ℕ) × AreTables m text tables) ∥₁
    → tables.start ≤ tables.max_match + 1
tables-next h = ∥∥₁_elim h le_prop (λ w. let greatest = w.1.lists.greatest in grind arith)

-- the unanchored start is past 1
pub tables-start : {m : Dictionary} {tables : Tables} → ∥ ((text : ℕ → List ℕ) × AreTables m text tables) ∥₁
    → 1 < tables.start
tables-start h = ∥∥₁_elim h le_prop (λ w. w.1.texts.starts.0)

-- ---- the patterns of a state

-- the list of a state is as long as the state's count
pub list-long : (states : List State) (matches : List ℕ) (i : ℕ)
    → (kept_of states i).matches + (kept_of states i).matches_len ≤ length matches
    → length (list_of states matches i) ≡ (kept_of states i).matches_len
list-long states matches i within =
    let rest = length-drop (kept_of states i).matches matches in
    length-take-le (kept_of states i).matches_len (drop (kept_of states i).matches matches) (omega (arith, rest))

-- the pattern at a place of the list is the one read there
pub list-at : (states : List State) (matches : List ℕ) (i : ℕ) {index x : ℕ}
    → (kept_of states i).matches + (kept_of states i).matches_len ≤ length matches
    → index < length (list_of states matches i) → x ≡ get_or matches ((kept_of states i).matches + index) x
    → slice_get (list_of states matches i) index ≡ Some x
list-at states matches i {index} {x} range within is =
    let long = list-long states matches i range in
    let front = get_or-take (kept_of states i).matches_len (drop (kept_of states i).matches matches) index x
    (omega (arith, long)) in
    let behind = get_or-drop (kept_of states i).matches matches index x in
    slice_get_read (list_of states matches i) (length (list_of states matches i)) index x refl within
    (is ∙ (sym behind ∙ sym front))

-- a list that isn't empty has at least one element
some-list : (xs : List ℕ) → xs ≢ [] → 0 < length xs
some-list [] some = absurd (some refl)
some-list (x ∷ xs) some = omega arith

-- a state with patterns is past 1 and at most the greatest that matches
list-some : {m : Dictionary} {tables : Tables} {text : ℕ → List ℕ} {i : ℕ} → (t : AreTables m text tables) → i < t.len
    → i ≢ 1 → list_of tables.states.items tables.matches.items i ≢ [] → (1 < i) × (i ≤ tables.max_match)
list-some {tables} {i} t within stands some =
    let long = list-long tables.states.items tables.matches.items i (t.lists.ranges i within) in
    let more = some-list (list_of tables.states.items tables.matches.items i) some in
    ⊎_elim
    (λ (past : 1 < i). (past, (t.lists.some i past within).0 (omega (arith, long, more))))
    (λ (le : i ≤ 1).
    let none = t.lists.none.0 in
    let same : (kept_of tables.states.items i).matches_len ≡ (kept_of tables.states.items 0).matches_len =
    ap (λ i. (kept_of tables.states.items i).matches_len) (omega (arith, le, stands)) in
    absurd (omega (arith, none, same, long, more)))
    (cases_lt 1 i)

-- a state past 1 and up to the greatest that matches has patterns
list-many : {m : Dictionary} {tables : Tables} {text : ℕ → List ℕ} {i : ℕ} → (t : AreTables m text tables) → i < t.len
    → 1 < i → i ≤ tables.max_match → list_of tables.states.items tables.matches.items i ≢ []
list-many {tables} {i} t within past le none =
    let long = list-long tables.states.items tables.matches.items i (t.lists.ranges i within) in
    let empty = ap length none in
    let some = (t.lists.some i past within).1 le in
    omega (arith, long, empty, some)

-- the dead state has none
list-dead : {m : Dictionary} {tables : Tables} {text : ℕ → List ℕ} {i : ℕ} → AreTables m text tables → i ≡ 0
    → list_of tables.states.items tables.matches.items i ≡ []
list-dead {tables} {i} t is =
    let none : (kept_of tables.states.items i).matches_len ≡ 0 =
    ap (λ i. (kept_of tables.states.items i).matches_len) is ∙ t.lists.none.0 in
    ap (λ k. take k (drop (kept_of tables.states.items i).matches tables.matches.items)) none

-- ---- the names of the states

-- the lists and the tests of the states are those of their texts
are-names : (nfa : NFA) (text : ℕ → List ℕ) → (t : AreTables (dictionary nfa) text nfa.tables)
    → AreNames (named_states nfa) (naming_of text t.len nfa.tables.start)
are-names nfa text t =
    let start = nfa.tables.start in
    record {
      lists = λ anchored sid state met some.
          let is = is-text text sid some in
          subst (λ v. IsList (dictionary nfa) v (matches_at nfa sid)) is.1
          (t.lists.lists sid is.0 (met-is text start anchored met).0);
      none = λ anchored sid met none.
          let is = is-dead text (met-is text start anchored met).1 none in
          let some = t.texts.starts.0 in
          (list-dead t is, start-none sid start (start + 1) is (omega (arith, some)) (omega arith));
      starting = λ anchored sid state met some.
          let is = is-text text sid some in (
            (λ start_is. sym is.1 ∙ ⊎_elim (λ (a : sid ≡ start). ap text a ∙ t.texts.starts.2)
                (λ (b : sid ≡ start + 1). ap text b ∙ t.texts.starts.3) (start-is sid start (start + 1) start_is)),
            (λ empty. start-has sid start (start + 1)
                (t.texts.others sid is.0 (met-is text start anchored met).0 (is.1 ∙ empty))),
          );
      stopping = λ anchored sid met.
          let w = met-is text start anchored met in
          let top = tables-top nfa.stands in
          let next = tables-next nfa.stands in
          ranked-special (built_as nfa) (matches_at nfa sid) (state_of text sid) start (start + 1) nfa.tables.max_match
          nfa.max_special sid
          (omega arith) top nfa.special
          (record {
            dead = (λ none. is-dead text w.1 none, λ zero. state-none text zero);
            matching = λ some le. list-many t w.0 (omega (arith, w.1, some)) le;
            within = λ some. (list-some t w.0 w.1 some).1;
            starts = λ past le.
                ⊎_elim (λ (at : sid ≡ start). inl at)
                (λ (other : sid ≢ start). inr (omega (arith, next, past, le, other))) (cases_eq sid start);
          });
    }

-- the lists and the tests of the states are those of whichever texts they stand for
pub all-names : (nfa : NFA) → AllNames (named_states nfa)
all-names nfa = of-names (AreNames (named_states nfa)) (are-names nfa)

-- ---- what is read

-- the start of a search of either anchoring
abbrev pub start_of : ℕ → Bool → ℕ
start_of start false = start
start_of start true = start + 1

-- the start of a search stands for the empty text
start-first : (nfa : NFA) (anchored : Bool) (text : ℕ → List ℕ) → (t : AreTables (dictionary nfa) text nfa.tables)
    → IsFirst (naming_of text t.len nfa.tables.start) anchored (start_of nfa.tables.start anchored)
start-first nfa false text t =
    let start = nfa.tables.start in
    let s = t.texts.starts in
    record {
      met = is-met text t.len start false start (omega (arith, s.1)) (λ e. omega (arith, s.0, e))
          (λ e. omega (arith, e));
      empty = state-some text start s.0 ∙ ap Some s.2;
    }
start-first nfa true text t =
    let start = nfa.tables.start in
    let s = t.texts.starts in
    record {
      met = is-met text t.len start true (start + 1) s.1 (λ e. omega (arith, s.0, e)) (λ e. omega (arith, e));
      empty = state-some text (start + 1) (omega (arith, s.0)) ∙ ap Some s.3;
    }

-- a search has reached its start before it reads a byte
pub start-read : (nfa : NFA) {anchored : Anchored} {sid : ℕ} → sid ≡ start_of nfa.tables.start (is_anchored anchored)
    → IsRead nfa anchored [] sid
start-read nfa {anchored} is =
    subst (IsRead nfa anchored []) (sym is)
    (read-start (named_states nfa) anchored (start_of nfa.tables.start (is_anchored anchored)) (all-names nfa)
    (∥∥₁_map nfa.stands
    (λ w. (naming_of w.0 w.1.len nfa.tables.start, (w.0, w.1, refl), start-first nfa (is_anchored anchored) w.0 w.1))))

-- a search goes where a look-up leads
pub next-read : (nfa : NFA) {anchored : Anchored} {sid byte next : ℕ} {before after : Steps}
    → LeadsNext nfa.tables (is_anchored anchored) 0 sid byte next before after
    → Leads (IsRead nfa anchored) sid (byte ∷ []) next
next-read nfa {anchored} {sid} {byte} {next} leads =
    read-next (named_states nfa) anchored sid byte next (all-names nfa)
    (λ names fits met. (leads (dictionary nfa) names fits met).0)

-- the looks of a look-up are paid for by the bytes that are given up
pub next-cost : (nfa : NFA) {anchored : Anchored} {sid byte next : ℕ} {before after : Steps}
    → LeadsNext nfa.tables (is_anchored anchored) 0 sid byte next before after
    → IsReadCost (built_as nfa) (IsRead nfa) anchored sid (byte ∷ []) before after
next-cost nfa {anchored} {sid} {byte} {next} {before} {after} leads =
    read-cost (named_states nfa) anchored sid byte next before after refl
    (λ names fits met. leads (dictionary nfa) names fits met)

-- ---- a state that some text reaches

-- What follows from a state that isn't the fail state, whatever the states stand for, holds of it.
pub state-holds : {P : Type 0} (nfa : NFA) {sid : ℕ} → ((x y : P) → x ≡ y)
    → ((text : ℕ → List ℕ) (t : AreTables (dictionary nfa) text nfa.tables) → sid < t.len → sid ≢ 1 → P)
    → IsState (IsRead nfa) sid → P
state-holds {P} nfa {sid} prop follows =
    state-met P (named_states nfa) sid prop
    (λ anchored. of-names (λ names. IsTrue (names.met anchored sid) → P)
    (λ text t met. let w = met-is text nfa.tables.start anchored met in follows text t w.0 w.1))

-- What follows from a state that a search of an anchoring may be at, whatever the states stand for, holds of it.
reached-holds : {P : Type 0} (nfa : NFA) {anchored : Anchored} {sid : ℕ} → ((x y : P) → x ≡ y)
    → ((text : ℕ → List ℕ) (t : AreTables (dictionary nfa) text nfa.tables) → sid < t.len → sid ≢ 1
    → sid ≢ other_start nfa.tables.start (is_anchored anchored) → P) → IsReached (IsRead nfa anchored) sid → P
reached-holds {P} nfa {anchored} {sid} prop follows =
    reached-met P (named_states nfa) anchored sid prop
    (of-names (λ names. IsTrue (names.met (is_anchored anchored) sid) → P)
    (λ text t met. let w = met-is text nfa.tables.start (is_anchored anchored) met in follows text t w.0 w.1 w.2))

-- a state that a search has reached is a state of the tables, and may be visited
pub state-kept : (nfa : NFA) {sid : ℕ} → IsState (IsRead nfa) sid → IsKept nfa.tables sid
state-kept nfa = state-holds nfa ∥∥₁_prop (λ text t within stands. ∣ (dictionary nfa, text, t, within) ∣₁)

pub state-visited : (nfa : NFA) {anchored : Anchored} {sid : ℕ} → IsReached (IsRead nfa anchored) sid
    → IsVisited nfa.tables (is_anchored anchored) sid
state-visited nfa h = (
  reached-holds nfa ∥∥₁_prop (λ text t within stands own. ∣ (dictionary nfa, text, t, within) ∣₁) h,
  λ e. reached-holds nfa (λ x y. absurd x) (λ text t within stands own. stands e) h,
  λ e. reached-holds nfa (λ x y. absurd x) (λ text t within stands own. own e) h,
)

-- the patterns of a reached state are within the list of all patterns
pub state-range : (nfa : NFA) {sid : ℕ} → IsState (IsRead nfa) sid
    → (kept_of nfa.tables.states.items sid).matches + (kept_of nfa.tables.states.items sid).matches_len
    ≤ length nfa.tables.matches.items
state-range nfa {sid} = state-holds nfa le_prop (λ text t within stands. t.lists.ranges sid within)

-- each entry of a reached state's list is the number of a pattern
pub state-known : (nfa : NFA) {sid : ℕ} (index : ℕ) {x : ℕ} → IsState (IsRead nfa) sid
    → slice_get (matches_at nfa sid) index ≡ Some x → x < length (dictionary nfa).patterns
state-known nfa {sid} index {x} h is = read-known (named_states nfa) sid index x (all-names nfa) h is

-- a reached state has patterns exactly if it is past 1 and at most the greatest that matches
pub state-matches : (nfa : NFA) {sid : ℕ} → IsState (IsRead nfa) sid → matches_at nfa sid ≢ []
    → (1 < sid) × (sid ≤ nfa.tables.max_match)
state-matches nfa h some = (
  state-holds nfa le_prop (λ text t within stands. (list-some t within stands some).0) h,
  state-holds nfa le_prop (λ text t within stands. (list-some t within stands some).1) h,
)

pub state-many : (nfa : NFA) {sid : ℕ} → IsState (IsRead nfa) sid → 1 < sid → sid ≤ nfa.tables.max_match
    → matches_at nfa sid ≢ []
state-many nfa h past le none =
    state-holds nfa (λ x y. absurd x) (λ text t within stands. list-many t within past le none) h

-- the unanchored start has no patterns if it is past the greatest state that matches
pub start-plain : (nfa : NFA) → nfa.tables.max_match < nfa.tables.start → matches_at nfa nfa.tables.start ≡ []
start-plain nfa apart =
    ∥∥₁_elim nfa.stands (Coded-set (coded_list coded_ℕ) (matches_at nfa nfa.tables.start) []) (λ w.
    let s = w.1.texts.starts in
    list-none (matches_at nfa nfa.tables.start)
    (λ some. let m = list-some w.1 (omega (arith, s.1)) (λ e. omega (arith, s.0, e)) some in omega (arith, m.1, apart)))

-- ---- what its tests say

-- the test for the dead state
pub dead-said : (nfa : NFA) {sid : ℕ} {dead : Bool} → IsTrue dead ↔ (sid ≡ 0)
    → AtEach (IsRead nfa) sid (TellsDead (built_as nfa) dead)
dead-said nfa {sid} {dead} is =
    read-dead (named_states nfa) sid dead
    (λ anchored. of-names (λ names. IsTrue (names.met anchored sid) → (names.text sid ≡ None) ↔ IsTrue dead)
    (λ text t met. (
      (λ none. is.1 (is-dead text (met-is text nfa.tables.start anchored met).1 none)),
      (λ tells. state-none text (is.0 tells)),
    )))

-- the test for a start
pub start-said : (nfa : NFA) {sid : ℕ} {start : Bool} → start ≡ is_start_at nfa sid
    → TellsStart (built_as nfa) (IsRead nfa) (matches_at nfa) sid start
start-said nfa {sid} is =
    subst (TellsStart (built_as nfa) (IsRead nfa) (matches_at nfa) sid) (sym is)
    (read-starts (named_states nfa) sid (all-names nfa))

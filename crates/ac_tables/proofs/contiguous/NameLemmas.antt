-- The naming of a contiguous automaton's states: the lists and tests of numbers are those of the states.
use Rattle.std.proofs.Common.{◌≡◌, ◌≢◌, ◌⊎◌, ◌↔◌, ℕ, ◌+◌, ◌<◌, ◌≤◌, Bool, IsTrue, List, [], ◌∷◌, length, slice_get, Some, inl, inr, refl, sym, ap, subst, ◌∙◌, ⊎_elim, arith}
use Rattle.std.specs.Prelude.{◌==◌, ◌&&◌, nat_le, not, slice_index, if◌then◌else◌}
use Rattle.std.specs.Coded.{le_prop}
use Rattle.std.proofs.Math.Logic.{∥∥₁_elim, ∥∥₁_map, ∥∥₁_prop}
use Rattle.std.proofs.lemmas.Bool.{cases_lt, cases_eq, cond-true, cond-false, and_from, and_left, and_right, eq-eqb, ne_eqb, le-leb, lt-leb}
use Rattle.ac_input.specs.Number.{greatest_number}
use Rattle.ac_input.specs.declared.search.Anchored.{Anchored}
use Rattle.ac_input.specs.Dictionary.{Dictionary}
use Rattle.ac_input.specs.Failure.{IsList}
use Rattle.ac_input.specs.Input.{is_anchored}
use Rattle.ac_automaton.specs.Automaton.{IsReached, IsState}
use Rattle.ac_automaton.specs.Named.{Naming, IsFirst, OfNames}
use Rattle.ac_automaton.proofs.automaton.NamedLemmas.{reached-met, state-met, read-start, read-known, AllNames, IsSpecialState}
use Rattle.ac_tables.specs.declared.contiguous.NFA.{NFA}
use Rattle.ac_tables.specs.declared.contiguous.table.Table.{Table}
use Rattle.ac_tables.specs.Contiguous.Table.{AreStates}
use Rattle.ac_tables.specs.Contiguous.Reads.{contiguous_dictionary, contiguous_built_as, contiguous_matches_at, is_contiguous_start_at, is_contiguous_special_at, IsLaidOut, IsContiguousRead, IsMet, contiguous_named_states}
use Rattle.ac_tables.specs.Contiguous.WordReads.{HasWordList, list_place, listed_at, matches_by}
use Rattle.ac_tables.specs.Contiguous.Words.{StateParts, one_pattern}
use Rattle.ac_tables.proofs.contiguous.MatchLemmas.{matches-read, list-placed}
use Rattle.ac_automaton.proofs.automaton.SpecialLemmas.{ranked-special}
use Rattle.ac_automaton.proofs.automaton.TestLemmas.{start-has, start-is, start-none}

-- ---- the patterns of a number

-- the dead state has no patterns
list-zero : (table : Table) (sid : ℕ) → sid ≡ 0 → matches_by table sid ≡ []
list-zero table sid is =
    cond-false (not (sid == 0) && nat_le sid table.max_match) (listed_at table sid) []
    (and_left (not (sid == 0)) (nat_le sid table.max_match) (ap not (eq-eqb sid 0 is)))

-- a number past the last that matches has no patterns
pub list-past : (table : Table) (sid : ℕ) → table.max_match < sid → matches_by table sid ≡ []
list-past table sid past =
    cond-false (not (sid == 0) && nat_le sid table.max_match) (listed_at table sid) []
    (and_right (not (sid == 0)) (nat_le sid table.max_match) (lt-leb sid table.max_match past))

-- the patterns of other numbers are read from the words
pub list-within : (table : Table) (sid : ℕ) → sid ≢ 0 → sid ≤ table.max_match
    → matches_by table sid ≡ listed_at table sid
list-within table sid some le =
    cond-true (not (sid == 0) && nat_le sid table.max_match) (listed_at table sid) []
    (and_from (not (sid == 0)) (nat_le sid table.max_match) (ap not (ne_eqb sid 0 some))
    (le-leb sid table.max_match le))

-- a list that isn't different from the empty one is empty
none-of : (ns : List ℕ) → ¬ (ns ≢ []) → ns ≡ []
none-of [] h = refl
none-of (n ∷ ns) h = absurd (h (λ e. cc))

-- The words are laid out by this naming.
module _ (m : Dictionary) (table : Table) (names : Naming) (parts : ℕ → StateParts)
    (a : AreStates m table names parts) where
  -- the patterns that are read at a state are its list
  pub list-is : (anchored : Bool) (sid : ℕ) → IsTrue (names.met anchored sid)
      → matches_by table sid ≡ (parts sid).matches
  list-is anchored sid met =
      ⊎_elim
      (λ (zero : sid ≡ 0). list-zero table sid zero ∙ sym (a.none anchored sid met zero))
      (λ (some : sid ≢ 0).
      ⊎_elim
      (λ (past : table.max_match < sid).
      let matching = (a.matching anchored sid met some).0 in
      list-past table sid past ∙ sym
      (none-of (parts sid).matches (λ full. let le = matching full in omega (arith, le, past))))
      (λ (le : sid ≤ table.max_match).
      list-within table sid some le
      ∙ matches-read table.words.items sid table.alphabet_len (parts sid) (a.stand anchored sid met)
      ((a.matching anchored sid met some).1 le) (a.few anchored sid met))
      (cases_lt table.max_match sid))
      (cases_eq sid 0)

  -- the list isn't empty exactly at the states past 1 and up to the last that matches
  pub list-some : (anchored : Bool) (sid : ℕ) → IsTrue (names.met anchored sid)
      → (matches_by table sid ≢ []) ↔ ((1 < sid) × (sid ≤ table.max_match))
  list-some anchored sid met =
      let is = list-is anchored sid met in (
        λ full.
            let some : sid ≢ 0 = λ zero. full (list-zero table sid zero) in
            let le = (a.matching anchored sid met some).0 (λ none. full (is ∙ none)) in
            let apart = a.linked.numbers.apart anchored sid met in
            (omega (arith, some, apart), le),
        λ h none.
            let past = h.0 in
            (a.matching anchored sid met (omega (arith, past))).1 h.1 (sym is ∙ none),
      )

  -- ---- special states

  -- the last state that matches is no later than the anchored start
  top : table.max_match ≤ table.start_anchored
  top =
      let past = a.past in
      ⊎_elim (λ (less : table.max_match < table.start). omega (arith, less, past))
      (λ (at : table.max_match ≡ table.start_anchored). omega (arith, at)) a.greatest

  -- a state after it, and no later than the anchored start, is a start
  starts : (anchored : Bool) (sid : ℕ) → IsTrue (names.met anchored sid) → table.max_match < sid
      → sid ≤ table.start_anchored
      → (sid ≡ table.start) ⊎ (sid ≡ table.start_anchored)
  starts anchored sid met past le =
      ⊎_elim
      (λ (less : sid < table.start_anchored).
      let low = a.between anchored sid met less in
      ⊎_elim
      (λ (front : sid < table.start). let match = a.before anchored sid met (omega (arith, past)) front in
      absurd (omega (arith, match, past)))
      (λ (at : table.start ≤ sid). inl (omega (arith, low, at)))
      (cases_lt sid table.start))
      (λ (at : table.start_anchored ≤ sid). inr (omega (arith, at, le)))
      (cases_lt sid table.start_anchored)

-- ---- the tests by the naming

-- the numbers up to the last special one are those at which a search has more to do
names-stop : (nfa : NFA) (names : Naming) (fits : IsLaidOut nfa names) (anchored : Bool) (sid : ℕ)
    → IsTrue (names.met anchored sid)
    → IsTrue (is_contiguous_special_at nfa sid)
    ↔ IsSpecialState (contiguous_built_as nfa) (contiguous_matches_at nfa sid) (is_contiguous_start_at nfa sid)
    (names.text sid)
names-stop nfa names fits anchored sid met =
    let a = fits.1 in
    let m = contiguous_dictionary nfa in
    let past = a.past in
    let listed = list-some m nfa.table names fits.0 a anchored sid met in
    ranked-special (contiguous_built_as nfa) (contiguous_matches_at nfa sid) (names.text sid) nfa.table.start
    nfa.table.start_anchored
    nfa.table.max_match nfa.max_special sid (omega (arith, past)) (top m nfa.table names fits.0 a) nfa.special
    (record {
      dead = a.dead anchored sid met;
      matching = λ some le. let apart = a.linked.numbers.apart anchored sid met in
          listed.1 (omega (arith, some, apart), le);
      within = λ full. (listed.0 full).1;
      starts = starts m nfa.table names fits.0 a anchored sid met;
    })

-- the lists and tests of the automaton are those of its states by every naming
pub names-are : (nfa : NFA) → AllNames (contiguous_named_states nfa)
names-are nfa names fits =
    let a = fits.1 in
    let m = contiguous_dictionary nfa in
    let past = a.past in
    record {
      lists = λ anchored sid text met is.
          subst (IsList m text) (sym (list-is m nfa.table names fits.0 a anchored sid met))
          (a.lists anchored sid text met is);
      none = λ anchored sid met none.
          let zero = (a.dead anchored sid met).0 none in (
            list-zero nfa.table sid zero,
            start-none sid nfa.table.start nfa.table.start_anchored zero (omega (arith, past)) (omega (arith, past)),
          );
      starting = λ anchored sid text met is. (
        λ start. let empty = (a.starting anchored sid met).1
            (start-is sid nfa.table.start nfa.table.start_anchored start) in
            let e : Some text ≡ Some [] = sym is ∙ empty in cc,
        λ empty. start-has sid nfa.table.start nfa.table.start_anchored
            ((a.starting anchored sid met).0 (is ∙ ap Some empty)),
      );
      stopping = λ anchored sid met. names-stop nfa names fits anchored sid met;
    }

-- ---- what is read

-- a state that is reached is met
pub read-is_met : (nfa : NFA) (anchored : Anchored) (sid : ℕ) → IsReached (IsContiguousRead nfa anchored) sid
    → IsMet nfa (is_anchored anchored) sid
read-is_met nfa anchored sid h =
    reached-met (IsMet nfa (is_anchored anchored) sid) (contiguous_named_states nfa) anchored sid ∥∥₁_prop
    (λ names fits met. ∣ (names, fits, met) ∣₁) h

-- what follows from a number that is met, by every naming, holds of a state
of-state : (P : Type 0) (nfa : NFA) (sid : ℕ) → ((x y : P) → x ≡ y)
    → ((anchored : Bool) → OfNames (IsLaidOut nfa) anchored sid (λ names. P)) → IsState (IsContiguousRead nfa) sid → P
of-state P nfa sid prop follows h = state-met P (contiguous_named_states nfa) sid prop follows h

-- no state has the number that stands for nowhere
pub state-apart : (nfa : NFA) (sid : ℕ) → IsState (IsContiguousRead nfa) sid → sid ≢ 1
state-apart nfa sid h e =
    of-state ⊥ nfa sid (λ x y. absurd x) (λ anchored names fits met. fits.1.linked.numbers.apart anchored sid met e) h

-- a state that matches is past 1 and at most the last that matches
pub state-matches : (nfa : NFA) (sid : ℕ) → IsState (IsContiguousRead nfa) sid → contiguous_matches_at nfa sid ≢ []
    → (1 < sid) × (sid ≤ nfa.table.max_match)
state-matches nfa sid h some = (
  of-state (1 < sid) nfa sid le_prop
      (λ anchored names fits met.
      ((list-some (contiguous_dictionary nfa) nfa.table names fits.0 fits.1 anchored sid met).0 some).0) h,
  of-state (sid ≤ nfa.table.max_match) nfa sid le_prop
      (λ anchored names fits met.
      ((list-some (contiguous_dictionary nfa) nfa.table names fits.0 fits.1 anchored sid met).0 some).1) h,
)

-- a state past 1 and up to the last that matches does match
pub state-many : (nfa : NFA) (sid : ℕ) → IsState (IsContiguousRead nfa) sid → 1 < sid → sid ≤ nfa.table.max_match
    → contiguous_matches_at nfa sid ≢ []
state-many nfa sid h past le none =
    of-state ⊥ nfa sid (λ x y. absurd x)
    (λ anchored names fits met. (list-some (contiguous_dictionary nfa) nfa.table names fits.0 fits.1 anchored sid met).1
    (past, le) none) h

-- the patterns of a state that matches are within the words
pub state-list : (nfa : NFA) (sid : ℕ) → IsState (IsContiguousRead nfa) sid → contiguous_matches_at nfa sid ≢ []
    → HasWordList nfa.table sid
state-list nfa sid h some = record {
  first = of-state (sid < length nfa.table.words.items) nfa sid le_prop
      (λ anchored names fits met. (there names fits anchored met).0) h;
  list = of-state (list_place nfa.table sid < length nfa.table.words.items) nfa sid le_prop
      (λ anchored names fits met. (there names fits anchored met).1) h;
  rest = λ low.
      of-state
      (list_place nfa.table sid + 1 + slice_index nfa.table.words.items (list_place nfa.table sid)
      ≤ length nfa.table.words.items) nfa sid le_prop (λ anchored names fits met. (there names fits anchored met).2 low)
      h;
}
  where
    there : (names : Naming) → (fits : IsLaidOut nfa names) → (anchored : Bool) → IsTrue (names.met anchored sid)
        → (sid < length nfa.table.words.items) × (list_place nfa.table sid < length nfa.table.words.items)
        × (slice_index nfa.table.words.items (list_place nfa.table sid) < one_pattern
        → list_place nfa.table sid + 1 + slice_index nfa.table.words.items (list_place nfa.table sid)
        ≤ length nfa.table.words.items)
    there names fits anchored met =
        list-placed nfa.table.words.items sid nfa.table.alphabet_len (fits.0 sid) (fits.1.stand anchored sid met)
        (λ none. some (list-is (contiguous_dictionary nfa) nfa.table names fits.0 fits.1 anchored sid met ∙ none))

-- the patterns of a state that matches are those that are read from the words
pub state-listed : (nfa : NFA) (sid : ℕ) → IsState (IsContiguousRead nfa) sid → contiguous_matches_at nfa sid ≢ []
    → contiguous_matches_at nfa sid ≡ listed_at nfa.table sid
state-listed nfa sid h some =
    let within = state-matches nfa sid h some in
    let past = within.0 in
    list-within nfa.table sid (omega (arith, past)) within.1

-- ---- the starts

-- the start of a search of either anchoring
abbrev pub nfa_start_of : Table → Bool → ℕ
nfa_start_of table anchored = if anchored then table.start_anchored else table.start

-- a search has reached its start before it reads a byte
pub start-read : (nfa : NFA) (anchored : Anchored) (sid : ℕ) → sid ≡ nfa_start_of nfa.table (is_anchored anchored)
    → IsContiguousRead nfa anchored [] sid
start-read nfa anchored sid is =
    read-start (contiguous_named_states nfa) anchored sid (names-are nfa)
    (∥∥₁_map nfa.stands
    (λ w. (
      w.0,
      (w.1, w.2, w.3),
      subst (IsFirst w.0 (is_anchored anchored)) (sym is) (w.2.first (is_anchored anchored)),
    )))

-- ---- the numbers of patterns

-- each pattern of a state has a number that is at most the greatest
pub state-small : (nfa : NFA) (sid k n : ℕ) → IsState (IsContiguousRead nfa) sid
    → slice_get (contiguous_matches_at nfa sid) k ≡ Some n → n ≤ greatest_number
state-small nfa sid k n h is =
    let known = read-known (contiguous_named_states nfa) sid k n (names-are nfa) h is in
    ∥∥₁_elim nfa.within le_prop (λ w. let few = w.patterns in omega (arith, few, known))

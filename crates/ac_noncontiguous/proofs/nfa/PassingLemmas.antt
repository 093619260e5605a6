-- What a search in the start may pass over: places at which no pattern opens.
use Rattle.std.proofs.Common.{◌≡◌, ◌≢◌, ℕ, zero, suc, ◌+◌, ◌-◌, ◌<◌, ◌≤◌, Bool, true, false, List, inl, inr, ⊎_elim, refl, sym, subst, ◌∙◌, arith}
use Rattle.std.specs.Prelude.{◌==◌, if◌then◌else◌, length}
use Rattle.std.proofs.lemmas.Bool.{cases_eq, eqb-true, eq-eqb, false≢true}
use Rattle.ac_input.specs.declared.search.Anchored.TheVariants.{No}
use Rattle.ac_input.specs.Dictionary.{IsPattern}
use Rattle.ac_automaton.specs.Named.{Naming, AreLinked}
use Rattle.ac_automaton.specs.Skip.{MayPass, MayReadBy}
use Rattle.ac_automaton.proofs.automaton.NamedPassingLemmas.{linked-may-pass}
use Rattle.ac_automaton.proofs.automaton.TestLemmas.{start-has}
use Rattle.ac_noncontiguous.specs.declared.nfa.NFA.{NFA}
use Rattle.ac_noncontiguous.specs.declared.nfa.tables.Tables.{Tables}
use Rattle.ac_noncontiguous.specs.declared.nfa.tables.Transition.{Transition}
use Rattle.ac_noncontiguous.specs.Nfa.{byte_at, next_at, kept_of}
use Rattle.ac_noncontiguous.specs.Nfa.Lookups.{StepsTo, IsNextIn, IsNamingOf}
use Rattle.ac_noncontiguous.specs.Nfa.Reads.{dictionary, built_as, matches_at, named_states, IsRead}
use Rattle.ac_automaton.proofs.skip.PassingLemmas.{may-read}
use Rattle.ac_automaton.proofs.skip.StopLemmas.{AreMatching, StopsBefore}
use Rattle.ac_automaton.specs.declared.look.Between.{Between}
use Rattle.ac_automaton.specs.declared.look.LookUp.{Ghosts}
use Rattle.ac_noncontiguous.proofs.nfa.IdleLemmas.{stays-in-start}
use Rattle.ac_noncontiguous.proofs.nfa.LookupLemmas.{kept-ordered, leads-range}
use Rattle.ac_noncontiguous.proofs.nfa.NextLemmas.{names-numbers, names-edge, names-failure}
use Rattle.ac_noncontiguous.proofs.nfa.ReadLemmas.{all-names, dead-said, start-plain, start-read, state-holds, state-many, state-matches}

-- ---- every text leads somewhere

-- the next state of the first of n transitions that has the byte; nowhere (1) where none has it
pub next_in : List Transition → ℕ → ℕ → ℕ → ℕ
next_in transitions from zero byte = 1
next_in transitions from (suc n) byte =
    if byte_at transitions from == byte then next_at transitions from else next_in transitions (from + 1) n byte

next_in-is : (transitions : List Transition) (from n : ℕ) {byte : ℕ}
    → IsNextIn transitions from (from + n) byte (next_in transitions from n byte)
unfolding next_in
next_in-is transitions from zero = inr (refl, λ k ge lt. absurd (omega (arith, ge, lt)))
next_in-is transitions from (suc n) {byte} =
    by (next_in-is transitions (from + 1) n) (byte_at transitions from == byte) refl
  where
    by : IsNextIn transitions (from + 1) (from + 1 + n) byte (next_in transitions (from + 1) n byte) → (here : Bool)
        → (byte_at transitions from == byte) ≡ here
        → IsNextIn transitions from (from + suc n) byte
        (if here then next_at transitions from else next_in transitions (from + 1) n byte)
    by rest true is = inl (from, omega arith, omega arith, eqb-true (byte_at transitions from) byte is, refl)
    by rest false is =
        ⊎_elim
        (λ w. inl (w.0, let ge = w.1 in omega (arith, ge), let lt = w.2 in omega (arith, lt), w.3, w.4))
        (λ none. inr (
          none.0,
          λ k ge lt.
              ⊎_elim
              (λ (here : k ≡ from). λ e. false≢true
              (sym is ∙ eq-eqb (byte_at transitions from) byte
              (subst (λ i. byte_at transitions i ≡ byte) here e)))
              (λ (past : k ≢ from). none.1 k (omega (arith, ge, past)) (omega (arith, lt)))
              (cases_eq k from),
        ))
        rest

-- where a byte leads from a state by its transitions
abbrev pub edge_by : Tables → ℕ → ℕ → ℕ
edge_by tables i byte =
    next_in tables.transitions.items (kept_of tables.states.items i).transitions
    ((kept_of tables.states.items (i + 1)).transitions - (kept_of tables.states.items i).transitions) byte

edge-steps : {tables : Tables} {i byte : ℕ} → byte < 256 → StepsTo tables i byte (edge_by tables i byte)
edge-steps {tables} {i} {byte} small = λ m text t within.
    let from = (kept_of tables.states.items i).transitions in
    let end = (kept_of tables.states.items (i + 1)).transitions in
    let ordered = kept-ordered ∣ (m, text, t, within) ∣₁ in
    let whole : from + (end - from) ≡ end = omega (arith, ordered) in
    leads-range small
    (subst (λ e. IsNextIn tables.transitions.items from e byte (edge_by tables i byte)) whole
    (next_in-is tables.transitions.items from (end - from))) m text t within

-- by its transitions and failures the automaton is one that follows failures
pub linked-by : (nfa : NFA) (names : Naming) → IsNamingOf (dictionary nfa) nfa.tables names
    → AreLinked (dictionary nfa) names nfa.tables.start (edge_by nfa.tables)
    (λ i. (kept_of nfa.tables.states.items i).fail)
linked-by nfa names fits =
    let m = dictionary nfa in
    record {
      numbers = names-numbers names fits;
      edges =
          λ anchored sid byte met small. names-edge
          (edge-steps small) names fits met;
      failures =
          λ sid met. names-failure refl names fits met;
    }

-- ---- by its skips

-- what a search that skips asks of the automaton
abbrev pub look_ups : Ghosts NFA
look_ups = record { built = built_as; Reaches = IsRead; matches = matches_at }

-- if the start matches nothing, a search in it may pass places at which no pattern opens
nfa-may-pass : (nfa : NFA) (len : ℕ) → 0 < len
    → ((n : ℕ) (p : List ℕ) → IsPattern (dictionary nfa) n p → len ≤ length p) → nfa.tables.max_match < nfa.tables.start
    → MayPass (dictionary nfa) len (IsRead nfa No) nfa.tables.start
nfa-may-pass nfa len some long past =
    let start = nfa.tables.start in
    linked-may-pass (named_states nfa) len start (edge_by nfa.tables) (λ i. (kept_of nfa.tables.states.items i).fail)
    (all-names nfa) (linked-by nfa) some long
    (start-read nfa refl) (start-has start start (start + 1) (inl refl)) (start-plain nfa past)

-- the states that match have the numbers from 2 to the greatest that matches
pub are-matching : (nfa : NFA) → AreMatching look_ups nfa 2 nfa.tables.max_match
are-matching nfa = record {
  some = (λ _. state-many nfa);
  within = (λ _. state-matches nfa);
  dead = λ text sid reads early.
      let apart : sid ≢ 1 =
      λ one. state-holds nfa (λ x y. absurd x) (λ texts t within other. other one) ∣ (No, text, reads) ∣₁ in
      (dead-said nfa (λ _. omega (arith, early, apart), λ _. refl) No text reads).0 refl;
}

-- A search may read on by its skips if its last stop, where that is before the start, is the greatest state that
-- matches.
pub may-read-by : {nfa : NFA} {two : Between} → StopsBefore nfa.tables.start two.last nfa.tables.max_match
    → MayReadBy look_ups nfa nfa.skips two
may-read-by {nfa} {two} =
    may-read look_ups nfa nfa.skips two nfa.tables.start 2 nfa.tables.max_match nfa.begins nfa.opened
    (stays-in-start nfa)
    (λ len sid some long reached past. nfa-may-pass nfa len some long past) (are-matching nfa)

-- What the words give by a naming of the states: edges, failures, and where a search may come.
use Rattle.std.proofs.Common.{◌≡◌, ◌≢◌, ℕ, ◌<◌, ◌≤◌, Bool, true, false, IsTrue, List, [], ◌∷◌, ◌++◌, Some, None, sym, subst, ⊎_elim, arith}
use Rattle.std.specs.Coded.{le_prop}
use Rattle.std.proofs.Math.Logic.{∥∥₁_elim, ∥∥₁_map}
use Rattle.std.proofs.lemmas.Bool.{cases_eq}
use Rattle.ac_input.specs.Number.{greatest_number}
use Rattle.ac_input.specs.declared.steps.Steps.{Steps}
use Rattle.ac_input.specs.Alphabet.{class}
use Rattle.ac_input.specs.Dictionary.{Dictionary, BeginsEntered}
use Rattle.ac_input.specs.Steps.{Done}
use Rattle.ac_automaton.specs.Named.{Naming, OfNames, IsEdgeBy, IsFailureBy, AreNumbers}
use Rattle.ac_automaton.proofs.automaton.LinkedLemmas.{paid-straight, paid-dead, paid-followed}
use Rattle.ac_automaton.proofs.automaton.NamedLemmas.{stands-for}
use Rattle.ac_tables.specs.declared.contiguous.NFA.{NFA}
use Rattle.ac_tables.specs.declared.contiguous.table.Table.{Table}
use Rattle.ac_tables.specs.Contiguous.Table.{AreStates}
use Rattle.ac_tables.specs.Contiguous.Reads.{contiguous_dictionary, IsLaidOut, IsMet, LooksUp}
use Rattle.ac_tables.specs.Contiguous.WordReads.{IsStateAt, ByteLeadsTo, FailsAt}
use Rattle.ac_tables.specs.Contiguous.Words.{StateParts, next_by}
use Rattle.ac_input.proofs.lemmas.SomeLemmas.{begins_cases}

-- ---- a state that is met

-- the number to which an edge leads is at most the greatest number
edge-small : (m : Dictionary) (names : Naming) (start sid byte next : ℕ)
    → ((anchored : Bool) (i : ℕ) → IsTrue (names.met anchored i) → i ≤ greatest_number) → AreNumbers m names start
    → IsEdgeBy m names start sid byte next → next ≤ greatest_number
edge-small m names start sid byte next small numbers edge =
    ⊎_elim
    (λ (none : names.text sid ≡ None). small true next (edge.dead none).0)
    (λ (is : (text : List ℕ) × (names.text sid ≡ Some text)).
    ⊎_elim
    (λ (begins : BeginsEntered m (is.0 ++ byte ∷ [])). small true next (edge.child is.0 is.1 begins).0)
    (λ (none : ¬ BeginsEntered m (is.0 ++ byte ∷ [])).
    ⊎_elim
    (λ (at : sid ≡ start). small false next (edge.back is.0 is.1 at none).0)
    (λ (apart : sid ≢ start). let e = edge.none is.0 is.1 apart none in omega (arith, e))
    (cases_eq sid start))
    (begins_cases m (is.0 ++ byte ∷ [])))
    (stands-for names)

-- a state that a search meets stands at its place, with its words
pub met-state : (m : Dictionary) (table : Table) (names : Naming) (parts : ℕ → StateParts) (anchored : Bool) (sid : ℕ)
    → AreStates m table names parts → IsTrue (names.met anchored sid) → IsStateAt table sid (parts sid)
met-state m table names parts anchored sid a met = record {
  stands = a.stand anchored sid met;
  alphabet = a.alphabet;
  few_classes = a.few_classes;
  fits = λ k edge is. a.fits anchored sid k edge met is;
  nexts = λ byte small. edge-small m names table.start sid byte (next_by (parts sid).edges (class table.classes byte))
      a.small a.linked.numbers (a.linked.edges anchored sid byte met small);
}

pub met-place : (nfa : NFA) (anchored : Bool) (sid : ℕ) → IsMet nfa anchored sid
    → (∥ ((s : StateParts) × IsStateAt nfa.table sid s) ∥₁)
met-place nfa anchored sid h =
    ∥∥₁_map h (λ w. (w.1.0 sid, met-state (contiguous_dictionary nfa) nfa.table w.0 w.1.0 anchored sid w.1.1 w.2))

-- ---- what look-ups give by a naming

pub laid-numbers : (nfa : NFA) (names : Naming) → IsLaidOut nfa names
    → AreNumbers (contiguous_dictionary nfa) names nfa.table.start
laid-numbers nfa names fits = fits.1.linked.numbers

-- a step of the words is an edge by every naming
pub laid-edge : (nfa : NFA) (anchored : Bool) (sid byte next : ℕ) → byte < 256 → ByteLeadsTo nfa.table sid byte next
    → OfNames (IsLaidOut nfa) anchored sid
    (λ names. IsEdgeBy (contiguous_dictionary nfa) names nfa.table.start sid byte next)
laid-edge nfa anchored sid byte next small steps names fits met =
    let s = met-state (contiguous_dictionary nfa) nfa.table names fits.0 anchored sid fits.1 met in
    subst (IsEdgeBy (contiguous_dictionary nfa) names nfa.table.start sid byte) (sym (steps (fits.0 sid) s))
    (fits.1.linked.edges anchored sid byte met small)

-- the failure of a state is a failure by every naming
pub laid-failure : (nfa : NFA) (sid fail : ℕ) → FailsAt nfa.table sid fail
    → OfNames (IsLaidOut nfa) false sid (λ names. IsFailureBy (contiguous_dictionary nfa) names sid fail)
laid-failure nfa sid fail fails names fits met =
    let s = met-state (contiguous_dictionary nfa) nfa.table names fits.0 false sid fits.1 met in
    subst (IsFailureBy (contiguous_dictionary nfa) names sid) (sym (fails (fits.0 sid) s))
    (fits.1.linked.failures sid met)

-- unanchored searches may come to the failure of a state
pub met-fail : (nfa : NFA) (sid fail : ℕ) → IsMet nfa false sid
    → FailsAt nfa.table sid fail → IsMet nfa false fail
met-fail nfa sid fail h fails = ∥∥₁_map h (λ w. (w.0, w.1, (laid-failure nfa sid fail fails w.0 w.1 w.2).met))

-- the failure's number is at most the greatest number
pub fail-small : (nfa : NFA) (sid fail : ℕ) → IsMet nfa false sid
    → FailsAt nfa.table sid fail → fail ≤ greatest_number
fail-small nfa sid fail h fails =
    ∥∥₁_elim h le_prop (λ w. w.1.1.small false fail (laid-failure nfa sid fail fails w.0 w.1 w.2).met)

-- ---- one look-up

-- an edge of the state's own, with one look
pub leads-straight : (nfa : NFA) (anchored : Bool) (sid byte next : ℕ) (before after : Steps) → byte < 256
    → ByteLeadsTo nfa.table sid byte next → next ≢ 1 → Done 1 0 0 before after
    → LooksUp nfa anchored 0 sid byte next before after
leads-straight nfa anchored sid byte next before after small steps some one names fits met =
    paid-straight (contiguous_dictionary nfa) names nfa.table.start anchored sid byte next before after
    (laid-numbers nfa names fits) (laid-edge nfa anchored sid byte next small steps names fits met) met some one

-- the dead state, in an anchored search, where the byte leads nowhere
pub leads-to_dead : (nfa : NFA) (anchored : Bool) (sid byte next dead : ℕ) (before after : Steps) → anchored ≡ true
    → byte < 256 → ByteLeadsTo nfa.table sid byte next → next ≡ 1 → dead ≡ 0 → Done 1 0 0 before after
    → LooksUp nfa anchored 0 sid byte dead before after
leads-to_dead nfa false sid byte next dead before after free small steps nothing zero_is one = absurd (cc)
leads-to_dead nfa true sid byte next dead before after free small steps nothing zero_is one = λ names fits met.
    let met_zero : IsTrue (names.met true dead) =
    subst (λ n. IsTrue (names.met true n)) (sym zero_is) fits.1.dead_met in
    paid-dead (contiguous_dictionary nfa) names nfa.table.start sid byte next dead before after
    (laid-edge nfa true sid byte next small steps names fits met) nothing
    met_zero ((fits.1.dead true dead met_zero).1 zero_is) one

-- the look-up that goes on over failures after a look at the state itself
pub leads-followed : (nfa : NFA) (anchored : Bool) (sid byte next : ℕ) (before between after : Steps) → anchored ≡ false
    → Done 1 0 0 before between → LooksUp nfa false 1 sid byte next between after
    → LooksUp nfa anchored 0 sid byte next before after
leads-followed nfa true sid byte next before between after free one h = absurd (cc)
leads-followed nfa false sid byte next before between after free one h =
    λ names fits met. paid-followed (contiguous_dictionary nfa) names sid byte next before between after one
    (h names fits met)

-- Which bytes a search by a DFA may pass over in the start.
use Rattle.std.proofs.Common.{◌≡◌, ℕ, ◌<◌, Bool, true, false, IsTrue, List, [], ◌∷◌, refl, sym, subst, ◌∙◌, arith}
use Rattle.std.specs.Coded.{le_prop}
use Rattle.std.proofs.Math.Logic.{∥∥₁_elim, ∥∥₁_map}
use Rattle.std.proofs.lemmas.Bool.{false≢true}
use Rattle.ac_input.specs.declared.search.Anchored.{Anchored}
use Rattle.ac_input.specs.declared.search.Anchored.TheVariants.{No}
use Rattle.ac_input.specs.Dfa.{Serves}
use Rattle.ac_input.specs.Dictionary.{Dictionary}
use Rattle.ac_automaton.specs.Named.{Naming, IsStep}
use Rattle.ac_automaton.proofs.skip.IdleLemmas.{IsIdleBy, idle-stays}
use Rattle.ac_automaton.specs.Look.{StaysBut}
use Rattle.ac_tables.specs.declared.dfa.DFA.{DFA}
use Rattle.ac_tables.specs.declared.dfa.table.Table.{Table}
use Rattle.ac_tables.specs.Dfa.Table.{dfa_matches_by, AreDfaRows}
use Rattle.ac_tables.specs.Dfa.Lookups.{HasRow, IsIdleIn}
use Rattle.ac_tables.specs.Dfa.Reads.{dfa_dictionary, dfa_named_states, IsNamingFor, IsDfaRead}
use Rattle.ac_tables.proofs.dfa.ReadLemmas.{all-names, listed-within}

-- the unanchored start has a row, where there are unanchored searches
pub start-row : (m : Dictionary) (table : Table) → (∥ ((names : Naming) × AreDfaRows m table names) ∥₁)
    → Serves table.kind No → HasRow table table.start
start-row m table h serves =
    record {
      within = ∥∥₁_elim h le_prop (λ w. (w.1.within false table.start (w.1.first No serves).met).0);
      classes = λ byte small. ∥∥₁_elim h le_prop (λ w. w.1.classes byte small);
    }

-- no pattern matches past the last number that matches
pub past-none : (table : Table) (sid : ℕ) → table.max_match < sid → dfa_matches_by table sid ≡ []
past-none table sid past = by (dfa_matches_by table sid) refl
  where
    by : (ns : List ℕ) → dfa_matches_by table sid ≡ ns → dfa_matches_by table sid ≡ []
    by [] is = is
    by (n ∷ ns) is =
        let le = (listed-within table sid (λ none. let e : n ∷ ns ≡ [] = sym is ∙ none in cc)).1 in
        absurd (omega (arith, le, past))

-- a byte that is idle in the table is idle by its naming
pub idle-by : (dfa : DFA) (anchored : Anchored) (byte : ℕ) → byte < 256 → IsIdleIn dfa.table byte
    → IsIdleBy (dfa_named_states dfa anchored) dfa.table.start byte
idle-by dfa anchored byte small idle =
    record {
      plain = past-none dfa.table dfa.table.start idle.plain;
      stays = by;
    }
  where
    by : (side : Bool) (names : Naming) → IsNamingFor dfa anchored names → IsTrue (names.met side dfa.table.start)
        → IsStep (dfa_dictionary dfa) names side dfa.table.start byte dfa.table.start
    by false names fits met =
        subst (IsStep (dfa_dictionary dfa) names false dfa.table.start byte) idle.stays
        (fits.1.steps No dfa.table.start byte idle.serves met small)
    by true names fits met = absurd (false≢true (sym fits.1.unanchored ∙ met))

-- the bytes that the starters pass over lead from the start back to it
pub stays-in-start : (dfa : DFA) (anchored : Anchored)
    → StaysBut (IsDfaRead dfa anchored) dfa.skips.starters dfa.table.start
stays-in-start dfa anchored =
    idle-stays (dfa_named_states dfa anchored) dfa.table.start dfa.skips.starters anchored (all-names dfa anchored)
    (∥∥₁_map dfa.idle (λ skips byte small none. idle-by dfa anchored byte small (skips byte small none)))

-- Which bytes a search that stands in the start may pass over, by the tables.
use Rattle.std.proofs.Common.{ℕ, List, arith}
use Rattle.std.proofs.Math.Logic.{∥∥₁_map}
use Rattle.ac_input.specs.declared.search.Anchored.{Anchored}
use Rattle.ac_input.specs.Dictionary.{Dictionary}
use Rattle.ac_noncontiguous.specs.declared.nfa.NFA.{NFA}
use Rattle.ac_noncontiguous.specs.declared.nfa.tables.Tables.{Tables}
use Rattle.ac_noncontiguous.specs.Nfa.{AreTables}
use Rattle.ac_noncontiguous.specs.Nfa.Lookups.{IsKept, IsIdle}
use Rattle.ac_noncontiguous.specs.Nfa.Reads.{dictionary, named_states, IsRead}
use Rattle.ac_automaton.specs.Look.{StaysBut}
use Rattle.ac_noncontiguous.proofs.nfa.NextLemmas.{names-numbers, names-edge}
use Rattle.ac_noncontiguous.proofs.nfa.ReadLemmas.{all-names, start-plain}
use Rattle.ac_automaton.proofs.skip.IdleLemmas.{IsIdleBy, idle-stays, linked-idle}

-- the unanchored start is a state of the tables
pub start-kept : {m : Dictionary} {tables : Tables} → ∥ ((text : ℕ → List ℕ) × AreTables m text tables) ∥₁
    → IsKept tables tables.start
start-kept {m} h = ∥∥₁_map h (λ w. let s = w.1.texts.starts in (m, w.0, w.1, omega (arith, s.1)))

-- ---- what is passed over

-- a byte that is idle by the tables leaves a search in the start
idle-by : (nfa : NFA) (byte : ℕ) → IsIdle nfa.tables byte → IsIdleBy (named_states nfa) nfa.tables.start byte
idle-by nfa byte idle =
    let m = dictionary nfa in
    let start = nfa.tables.start in
    linked-idle (named_states nfa) start byte names-numbers
    (λ anchored names fits met. names-edge idle.leads names fits met)
    (start-plain nfa idle.plain)

-- each byte that isn't a starter leads from the start back to it
pub stays-in-start : (nfa : NFA) (anchored : Anchored)
    → StaysBut (IsRead nfa anchored) nfa.skips.starters nfa.tables.start
stays-in-start nfa anchored =
    idle-stays (named_states nfa) nfa.tables.start nfa.skips.starters anchored (all-names nfa)
    (∥∥₁_map nfa.idle (λ skips byte lt none. idle-by nfa byte (skips byte lt none)))

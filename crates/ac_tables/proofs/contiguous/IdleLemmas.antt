-- Which bytes a search by a contiguous automaton may pass over in the start.
use Rattle.std.proofs.Common.{ℕ, ◌<◌, false, Option}
use Rattle.std.proofs.Math.Logic.{∥∥₁_map}
use Rattle.ac_input.specs.declared.search.Anchored.{Anchored}
use Rattle.ac_input.specs.Dictionary.{Dictionary}
use Rattle.ac_automaton.proofs.skip.IdleLemmas.{IsIdleBy, idle-stays, linked-idle}
use Rattle.ac_automaton.specs.Look.{StaysBut}
use Rattle.ac_tables.specs.declared.contiguous.NFA.{NFA}
use Rattle.ac_tables.specs.declared.contiguous.rows.Rows.{Rows}
use Rattle.ac_tables.specs.declared.contiguous.table.Table.{Table}
use Rattle.ac_tables.specs.Contiguous.Table.{AreSomeStates}
use Rattle.ac_tables.specs.Contiguous.Reads.{contiguous_named_states, IsContiguousRead}
use Rattle.ac_tables.specs.Contiguous.WordReads.{IsIdleAt, IsStateAt}
use Rattle.ac_tables.specs.Contiguous.Words.{StateParts}
use Rattle.ac_tables.proofs.contiguous.FollowLemmas.{met-state, laid-numbers, laid-edge}
use Rattle.ac_tables.proofs.contiguous.NameLemmas.{list-past, names-are}

-- the unanchored start has its words
pub start-place : (m : Dictionary) (table : Table) (rows : Option Rows) → AreSomeStates m table rows
    → (∥ ((s : StateParts) × IsStateAt table table.start s) ∥₁)
start-place m table rows h =
    ∥∥₁_map h (λ w. (w.1 table.start, met-state m table w.0 w.1 false table.start w.2 (w.2.first false).met))

-- a byte that is idle in the words is idle by their naming
pub idle-by : (nfa : NFA) (byte : ℕ) → byte < 256 → IsIdleAt nfa.table byte
    → IsIdleBy (contiguous_named_states nfa) nfa.table.start byte
idle-by nfa byte small idle =
    let start = nfa.table.start in
    linked-idle (contiguous_named_states nfa) start byte (laid-numbers nfa)
    (λ anchored names fits met. laid-edge nfa anchored start byte start small idle.stays names fits met)
    (list-past nfa.table start idle.plain)

-- the bytes that the starters pass over lead from the start back to it
pub stays-in-start : (nfa : NFA) (anchored : Anchored)
    → StaysBut (IsContiguousRead nfa anchored) nfa.skips.starters nfa.table.start
stays-in-start nfa anchored =
    idle-stays (contiguous_named_states nfa) nfa.table.start nfa.skips.starters anchored (names-are nfa)
    (∥∥₁_map nfa.idle (λ skips byte small none. idle-by nfa byte small (skips byte small none)))

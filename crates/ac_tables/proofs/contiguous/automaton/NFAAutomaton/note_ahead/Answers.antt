-- Without lanes, or where there are no rows, nothing is read ahead.
use Rattle.ac_automaton.proofs.lanes.NoteLemmas.{reads-nothing}
use Rattle.ac_tables.proofs.contiguous.automaton.NFAAutomaton.note_ahead.Goals as goal

pub returns-then-not-self-clause-reads : goal.returns-then-not-self-clause-reads
returns-then-not-self-clause-reads c = reads-nothing _ _ _ _ _ _ _ _ _ _ _ _ _ c.none.ensures

pub returns-in-None-clause-reads : goal.returns-in-None-clause-reads
returns-in-None-clause-reads c = reads-nothing _ _ _ _ _ _ _ _ _ _ _ _ _ c.none-in-None.ensures

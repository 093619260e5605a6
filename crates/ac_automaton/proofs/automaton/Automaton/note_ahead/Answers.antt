-- Nothing is read ahead.
use Rattle.ac_automaton.proofs.lanes.NoteLemmas.{reads-nothing}
use Rattle.ac_automaton.proofs.automaton.Automaton.note_ahead.Goals as goal

pub returns-clause-reads : goal.returns-clause-reads
returns-clause-reads g c = reads-nothing _ _ _ _ _ _ _ _ _ _ _ _ _ c.none.ensures

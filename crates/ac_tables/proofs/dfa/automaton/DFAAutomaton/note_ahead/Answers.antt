-- What is noted holds of the DFA's own states.
use Rattle.ac_automaton.proofs.lanes.NoteLemmas.{reads-nothing}
use Rattle.ac_tables.proofs.dfa.PassingLemmas.{dfa-ahead, may-note}
use Rattle.ac_tables.proofs.dfa.automaton.DFAAutomaton.note_ahead.Goals as goal

pub note_ahead-requires-clause-may : goal.note_ahead-requires-clause-may
note_ahead-requires-clause-may c = may-note c.args.self.now c.args.sid c.if-not-self.false c.requires.reached

pub returns-then-not-self-clause-reads : goal.returns-then-not-self-clause-reads
returns-then-not-self-clause-reads c = reads-nothing _ _ _ _ _ _ _ _ _ _ _ _ _ c.none.ensures

pub returns-clause-reads : goal.returns-clause-reads
returns-clause-reads c = dfa-ahead c.args.self.now _ _ _ _ _ _ _ _ _ c.note_ahead.ensures.reads

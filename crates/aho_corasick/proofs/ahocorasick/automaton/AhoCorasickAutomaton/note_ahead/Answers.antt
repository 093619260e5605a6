-- It holds of the front since it does of the automaton that serves.
use Rattle.aho_corasick.proofs.ahocorasick.automaton.AhoCorasickAutomaton.note_ahead.Goals as goal

pub note_ahead-requires : goal.note_ahead-requires
note_ahead-requires c = rw (c.serving.ensures.engine, c.in-Noncontiguous.is) at c.requires

pub returns-in-Noncontiguous : goal.returns-in-Noncontiguous
returns-in-Noncontiguous c =
    rw (c.serving.ensures.built, c.serving.ensures.engine, c.in-Noncontiguous.is) c.note_ahead.ensures

pub note_ahead-requires-in-Contiguous : goal.note_ahead-requires-in-Contiguous
note_ahead-requires-in-Contiguous c = rw (c.serving.ensures.engine, c.in-Contiguous.is) at c.requires

pub returns-in-Contiguous : goal.returns-in-Contiguous
returns-in-Contiguous c =
    rw (c.serving.ensures.built, c.serving.ensures.engine, c.in-Contiguous.is) c.note_ahead-in-Contiguous.ensures

pub note_ahead-requires-in-Dfa : goal.note_ahead-requires-in-Dfa
note_ahead-requires-in-Dfa c = rw (c.serving.ensures.engine, c.in-Dfa.is) at c.requires

pub returns-in-Dfa : goal.returns-in-Dfa
returns-in-Dfa c = rw (c.serving.ensures.built, c.serving.ensures.engine, c.in-Dfa.is) c.note_ahead-in-Dfa.ensures

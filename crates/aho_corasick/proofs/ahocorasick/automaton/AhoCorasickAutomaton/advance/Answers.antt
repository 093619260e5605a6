-- It holds of the front since it does of the automaton that serves.
use Rattle.aho_corasick.proofs.ahocorasick.automaton.AhoCorasickAutomaton.advance.Goals as goal

pub advance-requires : goal.advance-requires
advance-requires c = rw (c.serving.ensures.engine, c.in-Noncontiguous.is) at c.requires

pub returns-in-Noncontiguous : goal.returns-in-Noncontiguous
returns-in-Noncontiguous c =
    rw (c.serving.ensures.built, c.serving.ensures.engine, c.in-Noncontiguous.is) c.advance.ensures

pub advance-requires-in-Contiguous : goal.advance-requires-in-Contiguous
advance-requires-in-Contiguous c = rw (c.serving.ensures.engine, c.in-Contiguous.is) at c.requires

pub returns-in-Contiguous : goal.returns-in-Contiguous
returns-in-Contiguous c =
    rw (c.serving.ensures.built, c.serving.ensures.engine, c.in-Contiguous.is) c.advance-in-Contiguous.ensures

pub advance-requires-in-Dfa : goal.advance-requires-in-Dfa
advance-requires-in-Dfa c = rw (c.serving.ensures.engine, c.in-Dfa.is) at c.requires

pub returns-in-Dfa : goal.returns-in-Dfa
returns-in-Dfa c = rw (c.serving.ensures.built, c.serving.ensures.engine, c.in-Dfa.is) c.advance-in-Dfa.ensures

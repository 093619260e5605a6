-- It holds of the front since it does of the automaton that serves.
use Rattle.aho_corasick.proofs.ahocorasick.automaton.AhoCorasickAutomaton.advance_alone.Goals as goal

pub advance_alone-requires : goal.advance_alone-requires
advance_alone-requires c = rw (c.serving.ensures.engine, c.in-Noncontiguous.is) at c.requires

pub returns-in-Noncontiguous : goal.returns-in-Noncontiguous
returns-in-Noncontiguous c =
    rw (c.serving.ensures.built, c.serving.ensures.engine, c.in-Noncontiguous.is) c.advance_alone.ensures

pub advance_alone-requires-in-Contiguous : goal.advance_alone-requires-in-Contiguous
advance_alone-requires-in-Contiguous c = rw (c.serving.ensures.engine, c.in-Contiguous.is) at c.requires

pub returns-in-Contiguous : goal.returns-in-Contiguous
returns-in-Contiguous c =
    rw (c.serving.ensures.built, c.serving.ensures.engine, c.in-Contiguous.is) c.advance_alone-in-Contiguous.ensures

pub advance_alone-requires-in-Dfa : goal.advance_alone-requires-in-Dfa
advance_alone-requires-in-Dfa c = rw (c.serving.ensures.engine, c.in-Dfa.is) at c.requires

pub returns-in-Dfa : goal.returns-in-Dfa
returns-in-Dfa c = rw (c.serving.ensures.built, c.serving.ensures.engine, c.in-Dfa.is) c.advance_alone-in-Dfa.ensures

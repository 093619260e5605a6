-- It holds of the front since it does of the automaton that serves.
use Rattle.aho_corasick.proofs.ahocorasick.automaton.AhoCorasickSearch.search_overlapping.Goals as goal

pub returns-in-Noncontiguous : goal.returns-in-Noncontiguous
returns-in-Noncontiguous c =
    rw (c.serving.ensures.built, c.serving.ensures.engine, c.in-Noncontiguous.is) c.search_overlapping.ensures

pub returns-in-Contiguous : goal.returns-in-Contiguous
returns-in-Contiguous c =
    rw (c.serving.ensures.built, c.serving.ensures.engine, c.in-Contiguous.is)
    c.search_overlapping-in-Contiguous.ensures

pub returns-in-Dfa : goal.returns-in-Dfa
returns-in-Dfa c =
    rw (c.serving.ensures.built, c.serving.ensures.engine, c.in-Dfa.is) c.search_overlapping-in-Dfa.ensures

-- It holds of the front since it does of the automaton that serves.
use Rattle.aho_corasick.proofs.ahocorasick.automaton.AhoCorasickSearch.search_overlapping_ahead.Goals as goal

pub search_overlapping_ahead-requires : goal.search_overlapping_ahead-requires
search_overlapping_ahead-requires c =
    rw (c.serving.ensures.built, c.serving.ensures.engine, c.in-Noncontiguous.is) at c.requires

pub returns-in-Noncontiguous : goal.returns-in-Noncontiguous
returns-in-Noncontiguous c =
    rw (c.serving.ensures.built, c.serving.ensures.engine, c.in-Noncontiguous.is) c.search_overlapping_ahead.ensures

pub search_overlapping_ahead-requires-in-Contiguous : goal.search_overlapping_ahead-requires-in-Contiguous
search_overlapping_ahead-requires-in-Contiguous c =
    rw (c.serving.ensures.built, c.serving.ensures.engine, c.in-Contiguous.is) at c.requires

pub returns-in-Contiguous : goal.returns-in-Contiguous
returns-in-Contiguous c =
    rw (c.serving.ensures.built, c.serving.ensures.engine, c.in-Contiguous.is)
    c.search_overlapping_ahead-in-Contiguous.ensures

pub search_overlapping_ahead-requires-in-Dfa : goal.search_overlapping_ahead-requires-in-Dfa
search_overlapping_ahead-requires-in-Dfa c =
    rw (c.serving.ensures.built, c.serving.ensures.engine, c.in-Dfa.is) at c.requires

pub returns-in-Dfa : goal.returns-in-Dfa
returns-in-Dfa c =
    rw (c.serving.ensures.built, c.serving.ensures.engine, c.in-Dfa.is) c.search_overlapping_ahead-in-Dfa.ensures

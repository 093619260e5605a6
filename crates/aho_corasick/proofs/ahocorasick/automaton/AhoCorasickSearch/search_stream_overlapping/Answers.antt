-- It holds of the front since it does of the automaton that serves.
use Rattle.aho_corasick.proofs.ahocorasick.automaton.AhoCorasickSearch.search_stream_overlapping.Goals as goal

pub search_stream_overlapping-requires : goal.search_stream_overlapping-requires
search_stream_overlapping-requires c =
    rw (c.serving.ensures.built, c.serving.ensures.engine, c.in-Noncontiguous.is) at c.requires

pub returns-in-Noncontiguous : goal.returns-in-Noncontiguous
returns-in-Noncontiguous c =
    rw (c.serving.ensures.built, c.serving.ensures.engine, c.in-Noncontiguous.is) c.search_stream_overlapping.ensures

pub search_stream_overlapping-requires-in-Contiguous : goal.search_stream_overlapping-requires-in-Contiguous
search_stream_overlapping-requires-in-Contiguous c =
    rw (c.serving.ensures.built, c.serving.ensures.engine, c.in-Contiguous.is) at c.requires

pub returns-in-Contiguous : goal.returns-in-Contiguous
returns-in-Contiguous c =
    rw (c.serving.ensures.built, c.serving.ensures.engine, c.in-Contiguous.is)
    c.search_stream_overlapping-in-Contiguous.ensures

pub search_stream_overlapping-requires-in-Dfa : goal.search_stream_overlapping-requires-in-Dfa
search_stream_overlapping-requires-in-Dfa c =
    rw (c.serving.ensures.built, c.serving.ensures.engine, c.in-Dfa.is) at c.requires

pub returns-in-Dfa : goal.returns-in-Dfa
returns-in-Dfa c =
    rw (c.serving.ensures.built, c.serving.ensures.engine, c.in-Dfa.is) c.search_stream_overlapping-in-Dfa.ensures

-- It holds of the front since it does of the automaton that serves.
use Rattle.aho_corasick.proofs.ahocorasick.automaton.AhoCorasickSearch.search_ahead.Goals as goal

pub search_ahead-requires-clause-ahead : goal.search_ahead-requires-clause-ahead
search_ahead-requires-clause-ahead c =
    rw (c.serving.ensures.built, c.serving.ensures.engine, c.in-Noncontiguous.is) at c.requires.ahead

pub returns-in-Noncontiguous : goal.returns-in-Noncontiguous
returns-in-Noncontiguous c =
    rw (c.serving.ensures.built, c.serving.ensures.engine, c.in-Noncontiguous.is) c.search_ahead.ensures

pub search_ahead-requires-in-Contiguous-clause-ahead : goal.search_ahead-requires-in-Contiguous-clause-ahead
search_ahead-requires-in-Contiguous-clause-ahead c =
    rw (c.serving.ensures.built, c.serving.ensures.engine, c.in-Contiguous.is) at c.requires.ahead

pub returns-in-Contiguous : goal.returns-in-Contiguous
returns-in-Contiguous c =
    rw (c.serving.ensures.built, c.serving.ensures.engine, c.in-Contiguous.is) c.search_ahead-in-Contiguous.ensures

pub search_ahead-requires-in-Dfa-clause-ahead : goal.search_ahead-requires-in-Dfa-clause-ahead
search_ahead-requires-in-Dfa-clause-ahead c =
    rw (c.serving.ensures.built, c.serving.ensures.engine, c.in-Dfa.is) at c.requires.ahead

pub returns-in-Dfa : goal.returns-in-Dfa
returns-in-Dfa c = rw (c.serving.ensures.built, c.serving.ensures.engine, c.in-Dfa.is) c.search_ahead-in-Dfa.ensures

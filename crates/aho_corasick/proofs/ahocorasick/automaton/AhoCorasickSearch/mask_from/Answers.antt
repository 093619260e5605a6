-- It holds of the front since it does of the automaton that serves.
use Rattle.aho_corasick.proofs.ahocorasick.automaton.AhoCorasickSearch.mask_from.Goals as goal

pub mask_from-requires : goal.mask_from-requires
mask_from-requires c =
    rw (c.serving.ensures.built, c.serving.ensures.engine, c.in-Noncontiguous.is) at c.requires

pub returns-in-Noncontiguous : goal.returns-in-Noncontiguous
returns-in-Noncontiguous c =
    rw (c.serving.ensures.built, c.serving.ensures.engine, c.in-Noncontiguous.is) c.mask_from.ensures

pub mask_from-requires-in-Contiguous : goal.mask_from-requires-in-Contiguous
mask_from-requires-in-Contiguous c =
    rw (c.serving.ensures.built, c.serving.ensures.engine, c.in-Contiguous.is) at c.requires

pub returns-in-Contiguous : goal.returns-in-Contiguous
returns-in-Contiguous c =
    rw (c.serving.ensures.built, c.serving.ensures.engine, c.in-Contiguous.is)
    c.mask_from-in-Contiguous.ensures

pub mask_from-requires-in-Dfa : goal.mask_from-requires-in-Dfa
mask_from-requires-in-Dfa c =
    rw (c.serving.ensures.built, c.serving.ensures.engine, c.in-Dfa.is) at c.requires

pub returns-in-Dfa : goal.returns-in-Dfa
returns-in-Dfa c =
    rw (c.serving.ensures.built, c.serving.ensures.engine, c.in-Dfa.is) c.mask_from-in-Dfa.ensures

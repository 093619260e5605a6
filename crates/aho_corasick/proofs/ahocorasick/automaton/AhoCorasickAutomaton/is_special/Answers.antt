-- It holds of the front since it does of the automaton that serves.
use Rattle.aho_corasick.proofs.ahocorasick.automaton.AhoCorasickAutomaton.is_special.Goals as goal

pub is_special-requires : goal.is_special-requires
is_special-requires c = rw (c.serving.ensures.engine, c.in-Noncontiguous.is) at c.requires

pub is_special-requires-in-Contiguous : goal.is_special-requires-in-Contiguous
is_special-requires-in-Contiguous c = rw (c.serving.ensures.engine, c.in-Contiguous.is) at c.requires

pub is_special-requires-in-Dfa : goal.is_special-requires-in-Dfa
is_special-requires-in-Dfa c = rw (c.serving.ensures.engine, c.in-Dfa.is) at c.requires

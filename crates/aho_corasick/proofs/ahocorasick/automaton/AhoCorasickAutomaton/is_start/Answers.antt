-- It holds of the front since it does of the automaton that serves.
use Rattle.aho_corasick.proofs.ahocorasick.automaton.AhoCorasickAutomaton.is_start.Goals as goal

pub is_start-requires : goal.is_start-requires
is_start-requires c = rw (c.serving.ensures.engine, c.in-Noncontiguous.is) at c.requires

pub is_start-requires-in-Contiguous : goal.is_start-requires-in-Contiguous
is_start-requires-in-Contiguous c = rw (c.serving.ensures.engine, c.in-Contiguous.is) at c.requires

pub is_start-requires-in-Dfa : goal.is_start-requires-in-Dfa
is_start-requires-in-Dfa c = rw (c.serving.ensures.engine, c.in-Dfa.is) at c.requires

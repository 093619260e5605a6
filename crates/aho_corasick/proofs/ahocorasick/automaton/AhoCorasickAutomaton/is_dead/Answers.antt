-- It holds of the front since it does of the automaton that serves.
use Rattle.aho_corasick.proofs.ahocorasick.automaton.AhoCorasickAutomaton.is_dead.Goals as goal

pub is_dead-requires : goal.is_dead-requires
is_dead-requires c = rw (c.serving.ensures.engine, c.in-Noncontiguous.is) at c.requires

pub is_dead-requires-in-Contiguous : goal.is_dead-requires-in-Contiguous
is_dead-requires-in-Contiguous c = rw (c.serving.ensures.engine, c.in-Contiguous.is) at c.requires

pub is_dead-requires-in-Dfa : goal.is_dead-requires-in-Dfa
is_dead-requires-in-Dfa c = rw (c.serving.ensures.engine, c.in-Dfa.is) at c.requires

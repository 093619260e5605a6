-- It holds of the front since it does of the automaton that serves.
use Rattle.aho_corasick.proofs.ahocorasick.automaton.AhoCorasickAutomaton.is_match.Goals as goal

pub is_match-requires : goal.is_match-requires
is_match-requires c = rw (c.serving.ensures.engine, c.in-Noncontiguous.is) at c.requires

pub is_match-requires-in-Contiguous : goal.is_match-requires-in-Contiguous
is_match-requires-in-Contiguous c = rw (c.serving.ensures.engine, c.in-Contiguous.is) at c.requires

pub is_match-requires-in-Dfa : goal.is_match-requires-in-Dfa
is_match-requires-in-Dfa c = rw (c.serving.ensures.engine, c.in-Dfa.is) at c.requires

-- It holds of the front since it does of the automaton that serves.
use Rattle.aho_corasick.proofs.ahocorasick.automaton.AhoCorasickAutomaton.match_len.Goals as goal

pub match_len-requires-clause-valid : goal.match_len-requires-clause-valid
match_len-requires-clause-valid c = rw (c.serving.ensures.engine, c.in-Noncontiguous.is) at c.requires.valid

pub match_len-requires-in-Contiguous-clause-valid : goal.match_len-requires-in-Contiguous-clause-valid
match_len-requires-in-Contiguous-clause-valid c = rw (c.serving.ensures.engine, c.in-Contiguous.is) at c.requires.valid

pub match_len-requires-in-Dfa-clause-valid : goal.match_len-requires-in-Dfa-clause-valid
match_len-requires-in-Dfa-clause-valid c = rw (c.serving.ensures.engine, c.in-Dfa.is) at c.requires.valid

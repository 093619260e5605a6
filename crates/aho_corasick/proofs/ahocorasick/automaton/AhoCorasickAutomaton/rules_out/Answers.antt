-- It may be asked of the automaton that serves, since it may be of the front.
use Rattle.aho_corasick.proofs.ahocorasick.automaton.AhoCorasickAutomaton.rules_out.Goals as goal

pub rules_out-requires : goal.rules_out-requires
rules_out-requires c = rw (c.serving.ensures.built, c.in-Noncontiguous.is) at c.requires

pub rules_out-requires-in-Contiguous : goal.rules_out-requires-in-Contiguous
rules_out-requires-in-Contiguous c = rw (c.serving.ensures.built, c.in-Contiguous.is) at c.requires

pub rules_out-requires-in-Dfa : goal.rules_out-requires-in-Dfa
rules_out-requires-in-Dfa c = rw (c.serving.ensures.built, c.in-Dfa.is) at c.requires

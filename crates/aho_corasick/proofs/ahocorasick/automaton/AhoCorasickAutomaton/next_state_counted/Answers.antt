-- It holds of the front since it does of the automaton that serves.
use Rattle.aho_corasick.proofs.ahocorasick.automaton.AhoCorasickAutomaton.next_state_counted.Goals as goal

pub next_state_counted-requires : goal.next_state_counted-requires
next_state_counted-requires c = rw (c.serving.ensures.engine, c.in-Noncontiguous.is) at c.requires

pub returns-in-Noncontiguous : goal.returns-in-Noncontiguous
returns-in-Noncontiguous c =
    rw (c.serving.ensures.built, c.serving.ensures.engine, c.in-Noncontiguous.is) c.next_state_counted.ensures

pub next_state_counted-requires-in-Contiguous : goal.next_state_counted-requires-in-Contiguous
next_state_counted-requires-in-Contiguous c = rw (c.serving.ensures.engine, c.in-Contiguous.is) at c.requires

pub returns-in-Contiguous : goal.returns-in-Contiguous
returns-in-Contiguous c =
    rw (c.serving.ensures.built, c.serving.ensures.engine, c.in-Contiguous.is)
    c.next_state_counted-in-Contiguous.ensures

pub next_state_counted-requires-in-Dfa : goal.next_state_counted-requires-in-Dfa
next_state_counted-requires-in-Dfa c = rw (c.serving.ensures.engine, c.in-Dfa.is) at c.requires

pub returns-in-Dfa : goal.returns-in-Dfa
returns-in-Dfa c =
    rw (c.serving.ensures.built, c.serving.ensures.engine, c.in-Dfa.is) c.next_state_counted-in-Dfa.ensures

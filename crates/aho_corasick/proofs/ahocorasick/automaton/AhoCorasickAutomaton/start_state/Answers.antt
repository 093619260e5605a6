-- The start kind has the start, and then so does the automaton that serves.
use Rattle.aho_corasick.specs.AhoCorasick.{serving_engine}
use Rattle.aho_corasick.proofs.lemmas.EngineLemmas.{start-served}
use Rattle.aho_corasick.proofs.ahocorasick.automaton.AhoCorasickAutomaton.start_state.Goals as goal

pub returns-in-Noncontiguous : goal.returns-in-Noncontiguous
returns-in-Noncontiguous c =
    let ac = c.args.self.now in
    start-served (serving_engine ac) ac.start_kind c.args.anchored c.start_state.result ac.starts
    c.in_ok-enforce_anchored_consistency.ensures.served
    (rw (c.serving.ensures.engine, c.in-Noncontiguous.is) c.start_state.ensures)

pub returns-in-Contiguous : goal.returns-in-Contiguous
returns-in-Contiguous c =
    let ac = c.args.self.now in
    start-served (serving_engine ac) ac.start_kind c.args.anchored c.start_state-in-Contiguous.result ac.starts
    c.in_ok-enforce_anchored_consistency.ensures.served
    (rw (c.serving.ensures.engine, c.in-Contiguous.is) c.start_state-in-Contiguous.ensures)

pub returns-in-Dfa : goal.returns-in-Dfa
returns-in-Dfa c =
    let ac = c.args.self.now in
    start-served (serving_engine ac) ac.start_kind c.args.anchored c.start_state-in-Dfa.result ac.starts
    c.in_ok-enforce_anchored_consistency.ensures.served
    (rw (c.serving.ensures.engine, c.in-Dfa.is) c.start_state-in-Dfa.ensures)

-- The start kind has the search's start, and then so does the automaton that serves.
use Rattle.std.proofs.Common.{subst, sym}
use Rattle.ac_input.specs.Dfa.{Serves}
use Rattle.ac_automaton.specs.Automaton.{Finds}
use Rattle.aho_corasick.specs.AhoCorasick.{as_built, serving_engine}
use Rattle.aho_corasick.specs.Engine.{engine_supported_by}
use Rattle.aho_corasick.proofs.lemmas.EngineLemmas.{find-served}
use Rattle.aho_corasick.proofs.ahocorasick.automaton.AhoCorasickSearch.search.Goals as goal

pub returns-in-Dfa-clause-answer : goal.returns-in-Dfa-clause-answer
returns-in-Dfa-clause-answer c =
    let ac = c.args.self.now in
    let serves = subst (λ a. Serves ac.start_kind a) c.get_anchored.ensures
    c.in_ok-enforce_anchored_consistency.ensures.served in
    let answered = subst (λ b. Finds b.dictionary (engine_supported_by (serving_engine ac)) c.args.input.now
    c.search-in-Dfa.result)
    (sym c.serving.ensures.built) (rw (c.serving.ensures.engine, c.in-Dfa.is) c.search-in-Dfa.ensures.answer) in
    find-served (as_built ac) (serving_engine ac) ac.start_kind c.args.input.now c.search-in-Dfa.result ac.starts serves
    answered

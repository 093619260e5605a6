use Rattle.aho_corasick.proofs.lemmas.FindLemmas.{best-ends_first, found-earliest}
use Rattle.example_callers.proofs.generic_find.first_end.Goals as goal

pub returns : goal.returns
returns g c =
    let b = g.A.Automaton.built c.args.automaton.now in
    best-ends_first b.dictionary c.args.text.now c.in_ok-found.found _ _
    (found-earliest b (g.A.Automaton.supports c.args.automaton.now) c.args.text.now _ _ _ _ c.try_find.ensures.answer
    c.unwrap.ensures c.earliest-input.ensures c.new.ensures) c.in_ok-found.was c.end.ensures.value

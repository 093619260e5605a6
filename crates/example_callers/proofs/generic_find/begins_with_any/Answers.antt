use Rattle.aho_corasick.proofs.lemmas.FindLemmas.{begins-found, found-anchored}
use Rattle.example_callers.proofs.generic_find.begins_with_any.Goals as goal

pub returns : goal.returns
returns g c =
    let b = g.A.Automaton.built c.args.automaton.now in
    begins-found b.dictionary.kind b.dictionary c.args.text.now _ _
    (found-anchored b (g.A.Automaton.supports c.args.automaton.now) c.args.text.now _ _ _ _ c.try_find.ensures.answer
    c.unwrap.ensures c.anchored-input.ensures c.new.ensures) c.is_some.ensures

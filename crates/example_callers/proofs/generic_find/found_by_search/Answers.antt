use Rattle.ac_input.specs.Input.{whole_of}
use Rattle.aho_corasick.proofs.lemmas.FindLemmas.{found-first, found-for}
use Rattle.example_callers.proofs.generic_find.found_by_search.Goals as goal

pub returns : goal.returns
returns g c =
    let b = g.A.Automaton.built c.args.automaton.now in
    found-first b c.args.text.now _
    (found-for b (g.A.Automaton.supports c.args.automaton.now) _ (whole_of c.args.text.now) _ _ c.search.ensures.answer
    c.unwrap.ensures c.new.ensures)

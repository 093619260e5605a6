use Rattle.ac_input.specs.Input.{whole_of}
use Rattle.aho_corasick.proofs.lemmas.FindLemmas.{found-for}
use Rattle.example_callers.proofs.packed.PackedLemmas.{packed-alike}
use Rattle.example_callers.proofs.packed.find_by_both.Goals as goal

pub returns : goal.returns
returns g c =
    let b = g.A.Automaton.built c.args.automaton.now in
    packed-alike c.args.searcher.now b.dictionary c.args.text.now _ _ c.requires.kind c.requires.same
    c.requires.unpaired c.find.ensures.best
    (found-for b (g.A.Automaton.supports c.args.automaton.now) _ (whole_of c.args.text.now) _ _
    c.try_find.ensures.answer c.unwrap-found.ensures c.new.ensures)

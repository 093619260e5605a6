-- What the state has to show is the first of what is left.
use Rattle.std.proofs.Common.{refl}
use Rattle.ac_automaton.specs.Automaton.{searched}
use Rattle.ac_automaton.proofs.in_memory.overlapping.OverlappingReadLemmas.{shows-some}
use Rattle.ac_automaton.proofs.in_memory.overlapping.search.show_next.Goals as goal

pub returns-in-Some-clause-shows : goal.returns-in-Some-clause-shows
returns-in-Some-clause-shows g c =
    let a = c.args.automaton.now in
    let b = g.A.Automaton.built a in
    let asked = c.args.input.now in
    shows-some (g.A.Automaton.Reaches a asked.anchored) (g.A.Automaton.matches a) b.dictionary (searched b asked) _
    c.args.cursor.now c.args.from c.in-Some.shown c.requires.stands.cursor refl c.in-Some.ensures

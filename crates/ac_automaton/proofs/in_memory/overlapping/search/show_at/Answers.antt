-- What the state shows first ends here.
use Rattle.ac_automaton.specs.Automaton.{searched}
use Rattle.ac_automaton.specs.InMemory.Find.Cursor.{read_to, walked}
use Rattle.ac_automaton.proofs.in_memory.overlapping.ShowLemmas.{shows-dead, shows-told}
use Rattle.ac_automaton.proofs.in_memory.overlapping.search.show_at.Goals as goal

pub returns-then-is_dead : goal.returns-then-is_dead
returns-then-is_dead g c =
    let a = c.args.automaton.now in
    let b = g.A.Automaton.built a in
    let asked = c.args.input.now in
    let cursor = c.args.cursor.now in
    let text = read_to (walked (searched b asked) cursor) cursor.at in
    let reads = c.requires.cursor.reads in
    let dead = (c.is_dead.ensures asked.anchored text reads).0 c.if-is_dead.true in
    shows-dead g.A.Automaton a asked c.over.result c.requires.standard c.requires.cursor dead
    c.over.ensures.found c.over.ensures.place

pub returns : goal.returns
returns g c =
    let a = c.args.automaton.now in
    let b = g.A.Automaton.built a in
    let asked = c.args.input.now in
    let cursor = c.args.cursor.now in
    let text = read_to (walked (searched b asked) cursor) cursor.at in
    let tells = g.met.A.Automaton.tells a asked.anchored text cursor.sid c.requires.cursor.reads in
    shows-told g.A.Automaton a asked c.show.result c.requires.standard c.requires.cursor tells c.show.ensures

-- How one call of `advance` moves the cursor.
use Rattle.std.proofs.Common.{◌<◌, List, ℕ, length, slice_range, arith}
use Rattle.std.proofs.lemmas.Grind.{common_steps}
use Rattle.ac_input.specs.Number.{StateID}
use Rattle.ac_input.proofs.lemmas.OrderLemmas.{slice_range-length}
use Rattle.ac_automaton.proofs.lemmas.CursorLemmas.{cursor-read, cursor-read_on}
use Rattle.ac_automaton.proofs.in_memory.find.cursor.read_on.Goals as goal

pub returns-clause-stands : goal.returns-clause-stands
returns-clause-stands g c =
    let asked = c.args.input.now in
    let at = c.args.cursor.at in
    let taken = rw (c.haystack.ensures, c.end.ensures.value) at c.advance-advance.ensures.goes.taken in
    let reads =
    rw (c.haystack.ensures, c.end.ensures.value, c.get_anchored.ensures) at c.advance-advance.ensures.goes.reads in
    let long = slice_range-length asked.haystack at c.requires.stands.within c.requires.stands.inside in
    cursor-read c.advance-advance.result.sid
    c.advance-advance.result.taken c.requires.stands (omega (arith, taken.0)) reads

pub returns-clause-on : goal.returns-clause-on
returns-clause-on g c =
    let a = c.args.automaton.now in
    let asked = c.args.input.now in
    let at = c.args.cursor.at in
    let open_ = c.requires.open in
    let taken = rw (c.haystack.ensures, c.end.ensures.value) at c.advance-advance.ensures.goes.taken in
    let plain =
    rw (c.haystack.ensures, c.end.ensures.value, c.get_anchored.ensures) at c.advance-advance.ensures.goes.plain in
    let cost = rw (c.haystack.ensures, c.end.ensures.value, c.get_anchored.ensures) at c.advance-advance.ensures.cost in
    let long = slice_range-length asked.haystack at c.requires.stands.within c.requires.stands.inside in
    let some : 0 < length (slice_range asked.haystack at asked.span.end) = omega arith in
    cursor-read_on (g.A.Automaton.built a) (g.A.Automaton.Reaches a) asked.anchored (g.A.Automaton.matches a)
    (g.A.Automaton.starts a) (g.A.Automaton.special a)
    c.advance-advance.result.sid c.advance-advance.result.taken _ _ c.requires.stands (taken.1 some)
    (omega (arith, taken.0))
    (λ (text : List ℕ) (state : StateID) (reads : g.A.Automaton.Reaches a asked.anchored text state).
    g.met.A.Automaton.tells a asked.anchored text state reads)
    (λ (text : List ℕ) (state : StateID) (reads : g.A.Automaton.Reaches a asked.anchored text state).
    g.met.A.Automaton.stops a asked.anchored text state reads)
    plain cost

pub advance-advance-requires : goal.advance-advance-requires
advance-advance-requires g c = grind (arith, common_steps)

-- The walk goes on from the cursor, which is then moved to where the walk stands.
use Rattle.std.proofs.Common.{rules}
use Rattle.ac_automaton.specs.InMemory.Iter.{IsPlaceIn}
use Rattle.ac_c.specs.Walk.{Goes}
use Rattle.ac_c.proofs.walk.CursorLemmas.{cursor-step, step-cost}
use Rattle.ac_c.proofs.walk.step_counted.Goals as goal

pub returns-in-Ok-clause-step : goal.returns-in-Ok-clause-step
returns-in-Ok-clause-step c =
    let n = c.next_counted-found.ensures in let v = c.next_counted-found.new.self in
    let valid = c.in-Some.ensures.0 in
    let goes : Goes c.args.cursor (record { start = v.at; last = v.last }) c.cursor_at.result =
    rw c.place.ensures.value at c.cursor_at.ensures in
    let within : IsPlaceIn v.asked (record { start = v.at; last = v.last }) =
    rw c.place.ensures.value at c.place.ensures.within in
    let supports = rw c.in-Some.ensures.1 at c.in-Ok.ensures.0 in
    let s = cursor-step c.args.ac.now c.args.haystack.now c.args.cursor c.cursor_at.result c.in-Ok.matches v
    c.next_counted-found.result (search rules) valid
    (rw (c.in-Some.ensures.1, c.place_at.ensures) at c.in-Ok.ensures.1) n.gives n.kept within goes in
    ((valid, supports), s.0, s.1, s.2)

pub returns-in-Ok-clause-cost : goal.returns-in-Ok-clause-cost
returns-in-Ok-clause-cost c =
    step-cost c.args.ac.now c.args.haystack.now c.args.cursor c.in-Ok.matches c.next_counted-found.new.self
    c.next_counted-found.result _ _ (rw (c.in-Some.ensures.1, c.place_at.ensures) at c.in-Ok.ensures.1)
    c.next_counted-found.ensures.cost

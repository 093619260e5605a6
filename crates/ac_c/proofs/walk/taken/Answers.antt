-- The cursor is moved to where the walk stands.
use Rattle.ac_automaton.specs.InMemory.Iter.{IsPlaceIn}
use Rattle.ac_c.specs.Walk.{Goes}
use Rattle.ac_c.proofs.walk.taken.Goals as goal

pub returns : goal.returns
returns g c =
    let f = c.fill-count.ensures in let v = g.W.Walking.walk c.fill-count.new.matches in
    let goes : Goes c.args.cursor (record { start = v.at; last = v.last }) c.cursor_at.result =
    rw c.stands.ensures.value at c.cursor_at.ensures in
    let within : IsPlaceIn v.asked (record { start = v.at; last = v.last }) =
    rw c.stands.ensures.value at c.stands.ensures.within in
    record { given = f.given; moved = v; past = f.past; cost = f.cost; within = within; goes = goes }

-- Each note that is passed over is lost, until none is left.
use Rattle.std.proofs.Common.{◌∙◌, ◌≤◌, ◌+◌, length, ap, arith, refl}
use Rattle.ac_automaton.proofs.ahead.AheadLemmas.{left-over, skip-one}
use Rattle.ac_automaton.proofs.ahead.Ahead.forget.Goals as goal

pub bounds-self-self : goal.bounds-self-self
bounds-self-self c =
    let same = c.loop-self.invariant.same in
    let long = ap length same.notes in
    omega (arith, c.requires, long, same.end, c.loop-self-test.true, c.type_inv.self)

pub loop-self-preserved : goal.loop-self-preserved
loop-self-preserved c =
    let inv = c.loop-self.invariant in
    let long = ap length inv.same.notes in
    let room : c.loop-self.self.end ≤ length c.loop-self.self.notes = omega (arith, c.requires, long, inv.same.end) in
    let one =
    skip-one c.loop-self.self (record c.loop-self.self { next = c.loop-self.self.next + 1; lost = c.more-self.result })
    0 c.index-self-self.result room c.loop-self-test.true c.more-self.ensures refl refl refl refl in
    record {
      same = record { notes = inv.same.notes; end = inv.same.end; until = inv.same.until; block = inv.same.block };
      ahead = one.0 ∙ inv.ahead;
    }

pub returns : goal.returns
returns c =
    let inv = c.loop-self.invariant in
    let long = ap length inv.same.notes in
    let room : c.loop-self.self.end ≤ length c.loop-self.self.notes = omega (arith, c.requires, long, inv.same.end) in
    record {
      left = left-over c.loop-self.self room c.loop-self-test.false;
      ahead = inv.ahead;
      until = refl;
      room = room;
    }

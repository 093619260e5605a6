-- The notes that begin before the place are lost.
use Rattle.std.proofs.Common.{◌∙◌, ◌≤◌, ◌+◌, length, ap, arith, refl, sym}
use Rattle.std.specs.Prelude.{slice_get}
use Rattle.ac_automaton.proofs.ahead.AheadLemmas.{left-first, left-over, notes-here, notes-none, skip-one}
use Rattle.ac_automaton.proofs.ahead.Ahead.upcoming.Goals as goal

pub bounds-self-self : goal.bounds-self-self
bounds-self-self c =
    let same = c.loop-self.invariant.same in
    let room = c.requires in
    let long = ap length same.notes in
    let test = c.loop-self-test.true in
    let size = c.type_inv.self in
    omega (arith, room, long, same.end, test)

pub returns-then-at-note-clause-skipped : goal.returns-then-at-note-clause-skipped
returns-then-at-note-clause-skipped c =
    let inv = c.loop-self.invariant in
    let long = ap length inv.same.notes in
    let room : c.loop-self.self.end ≤ length c.loop-self.self.notes = omega (arith, c.requires, long, inv.same.end) in
    record {
      left = notes-here (left-first c.loop-self.self c.index-self-self.result room c.loop-self-test.true)
          c.if-at-note.true ∙ inv.left;
      ahead = inv.ahead;
      same = inv.same;
    }

pub returns-then-at-note-clause-noted : goal.returns-then-at-note-clause-noted
returns-then-at-note-clause-noted c =
    let inv = c.loop-self.invariant in
    let long = ap length inv.same.notes in
    let room : c.loop-self.self.end ≤ length c.loop-self.self.notes = omega (arith, c.requires, long, inv.same.end) in
    sym (ap (λ notes. slice_get notes 0)
    (left-first c.loop-self.self c.index-self-self.result room c.loop-self-test.true))

pub loop-self-preserved : goal.loop-self-preserved
loop-self-preserved c =
    let inv = c.loop-self.invariant in
    let long = ap length inv.same.notes in
    let room : c.loop-self.self.end ≤ length c.loop-self.self.notes = omega (arith, c.requires, long, inv.same.end) in
    let one =
    skip-one c.loop-self.self (record c.loop-self.self { next = c.loop-self.self.next + 1; lost = c.more-self.result })
    c.args.at c.index-self-self.result room c.loop-self-test.true c.more-self.ensures refl refl refl refl in
    record {
      same = record { notes = inv.same.notes; end = inv.same.end; until = inv.same.until; block = inv.same.block };
      left = one.1 c.if-at-note.false ∙ inv.left;
      ahead = one.0 ∙ inv.ahead;
    }

pub returns-clause-skipped : goal.returns-clause-skipped
returns-clause-skipped c =
    let inv = c.loop-self.invariant in
    let long = ap length inv.same.notes in
    let room : c.loop-self.self.end ≤ length c.loop-self.self.notes = omega (arith, c.requires, long, inv.same.end) in
    record {
      left = notes-none c.args.at (left-over c.loop-self.self room c.loop-self-test.false) ∙ inv.left;
      ahead = inv.ahead;
      same = inv.same;
    }

pub returns-clause-noted : goal.returns-clause-noted
returns-clause-noted c =
    let inv = c.loop-self.invariant in
    let long = ap length inv.same.notes in
    let room : c.loop-self.self.end ≤ length c.loop-self.self.notes = omega (arith, c.requires, long, inv.same.end) in
    sym (ap (λ notes. slice_get notes 0) (left-over c.loop-self.self room c.loop-self-test.false))

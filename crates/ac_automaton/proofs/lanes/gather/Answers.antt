-- The notes of one lane come after those of the lane before it.
use Rattle.std.proofs.Common.{◌≤◌, ◌∙◌, arith}
use Rattle.ac_automaton.proofs.lanes.GatherLemmas.{gathered}
use Rattle.ac_automaton.proofs.lanes.gather.Goals as goal

pub returns-clause-gathered : goal.returns-clause-gathered
returns-clause-gathered c =
    let begun = c.args.begun.now in
    let lanes = c.args.lanes.now in
    let made = c.requires.made in
    let apart = c.requires.apart in
    let b = c.move_down-b.ensures in
    let d = c.move_down-c.ensures in
    let e = c.move_down.ensures in
    let b_c : lanes.b.slot ≤ begun.c.slot = omega (arith, made.b.1, apart.1) in
    let c_d : lanes.c.slot ≤ begun.d.slot = omega (arith, made.c.1, apart.2) in
    let b_d : lanes.b.slot ≤ begun.d.slot = omega (arith, b_c, made.c.0, c_d) in
    gathered begun lanes c.args.notes.now c.move_down-b.new.notes c.move_down-c.new.notes c.move_down.new.notes
    c.move_down-b.result c.move_down-c.result c.move_down.result c.requires.first
    b.moved d.moved (b.later begun.c.slot b_c) e.moved (d.later begun.d.slot c_d ∙ b.later begun.d.slot b_d)

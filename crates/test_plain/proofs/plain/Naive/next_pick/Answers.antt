use Rattle.test_plain.proofs.plain.Occurrences.{repeats_within}
use Rattle.std.proofs.Common.{refl, arith}
use Rattle.ac_input.specs.Walk.{Further}
use Rattle.test_plain.proofs.plain.Naive.next_pick.Goals as goal

pub returns-then-repeats : goal.returns-then-repeats
returns-then-repeats c =
    Further _ (rw c.starting_at.ensures at c.best-found.ensures) (c.if-repeats.ensures.0 refl)
    (rw c.starting_at-then-repeats.ensures at c.best.ensures)

pub starting_at-requires-then-repeats : goal.starting_at-requires-then-repeats
starting_at-requires-then-repeats c =
    let found = rw c.starting_at.ensures at c.best-found.ensures in
    let here = repeats_within _ c.args.self.now c.args.at c.args.last _ found (c.if-repeats.ensures.0 refl) in
    omega arith

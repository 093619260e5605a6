-- Where the best match repeats the last pick, the next pick begins a byte further on.
use Rattle.std.proofs.Common.{refl, arith}
use Rattle.std.proofs.lemmas.Grind.{common_steps}
use Rattle.ac_input.specs.Walk.{Further}
use Rattle.ac_automaton.proofs.in_memory.iter.IterLemmas.{pick-ended, work-further}
use Rattle.ac_input.proofs.lemmas.UnusedLemmas.{best-fresh}
use Rattle.ac_automaton.proofs.in_memory.iter.next_pick.Goals as goal

pub returns-then-start-end-clause-pick : goal.returns-then-start-end-clause-pick
returns-then-start-end-clause-pick g c =
    pick-ended c.best-found.result (omega arith) c.best-found.ensures.found (c.if-not-repeats.ensures.0 refl)

pub returns-clause-pick : goal.returns-clause-pick
returns-clause-pick g c =
    Further c.best-found.result c.best-found.ensures.found (c.if-not-repeats.ensures.0 refl)
    (rw (c.set_start.ensures, c.start-2.ensures) at c.best.ensures.found)

pub returns-clause-work : goal.returns-clause-work
returns-clause-work g c =
    let inside = c.end.ensures.within in
    work-further c.args.last (rw c.end.ensures.value at inside) c.requires.last c.best-found.ensures.found
    (c.if-not-repeats.ensures.0 refl) c.best-found.ensures.cost.work
    (rw (c.set_start.ensures, c.start-2.ensures) at c.best.ensures.cost.work)

pub returns-then-start-end-clause-counts : goal.returns-then-start-end-clause-counts
returns-then-start-end-clause-counts g c = λ some.
    let inside = c.end.ensures.within in
    absurd (best-fresh _ _ c.args.last c.best-found.result (rw c.end.ensures.value at inside) some
    c.best-found.ensures.found (c.if-not-repeats.ensures.0 refl))

pub returns-clause-counts : goal.returns-clause-counts
returns-clause-counts g c = λ some.
    let inside = c.end.ensures.within in
    absurd (best-fresh _ _ c.args.last c.best-found.result (rw c.end.ensures.value at inside) some
    c.best-found.ensures.found (c.if-not-repeats.ensures.0 refl))

pub best-requires : goal.best-requires
best-requires g c = grind (arith, common_steps)

pub best-found-requires : goal.best-found-requires
best-found-requires g c = grind (arith, common_steps)

pub returns-then-not-repeats-clause-pick : goal.returns-then-not-repeats-clause-pick
returns-then-not-repeats-clause-pick g c = grind (arith, common_steps)

pub returns-then-not-repeats-clause-asked : goal.returns-then-not-repeats-clause-asked
returns-then-not-repeats-clause-asked g c = grind (arith, common_steps)

pub returns-then-not-repeats-clause-work : goal.returns-then-not-repeats-clause-work
returns-then-not-repeats-clause-work g c = grind (arith, common_steps)

pub returns-then-not-repeats-clause-counts : goal.returns-then-not-repeats-clause-counts
returns-then-not-repeats-clause-counts g c = grind (arith, common_steps)

pub returns-then-start-end-clause-asked : goal.returns-then-start-end-clause-asked
returns-then-start-end-clause-asked g c = grind (arith, common_steps)

pub returns-then-start-end-clause-work : goal.returns-then-start-end-clause-work
returns-then-start-end-clause-work g c = grind (arith, common_steps)

pub overflow_add-start : goal.overflow_add-start
overflow_add-start g c = grind (arith, common_steps)

pub set_start-requires : goal.set_start-requires
set_start-requires g c = grind (arith, common_steps)

pub returns-clause-asked : goal.returns-clause-asked
returns-clause-asked g c = grind (arith, common_steps)

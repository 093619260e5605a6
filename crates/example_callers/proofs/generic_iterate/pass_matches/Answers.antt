-- Each call leaves one match less.
use Rattle.std.proofs.Common.{Some, ap, length, arith}
use Rattle.ac_automaton.proofs.in_memory.iter.IterLemmas.{pick-yields}
use Rattle.example_callers.proofs.generic_iterate.pass_matches.Goals as goal

pub loop-smaller : goal.loop-smaller
loop-smaller g c =
    let yields = pick-yields c.loop.matches (Some c.in-Some.field-0) c.in-Some.ensures.kept.within.1
    c.in-Some.ensures.gives.0 c.in-Some.ensures.gives.1 in
    let fewer = ap length yields in
    omega arith

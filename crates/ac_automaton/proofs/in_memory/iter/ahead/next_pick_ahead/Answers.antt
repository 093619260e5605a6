-- Where no pattern is empty, no match repeats the last pick.
use Rattle.std.proofs.lemmas.Grind.{common_steps}
use Rattle.std.proofs.Common.{arith}
use Rattle.ac_input.specs.Walk.{Here}
use Rattle.ac_automaton.specs.InMemory.Find.Ahead.{IsAheadIn, MayReadAhead}
use Rattle.ac_input.proofs.lemmas.UnusedLemmas.{best-fresh}
use Rattle.ac_automaton.proofs.in_memory.iter.ahead.next_pick_ahead.Goals as goal

pub returns-in-Some-clause-pick : goal.returns-in-Some-clause-pick
returns-in-Some-clause-pick g c =
    let may : MayReadAhead g.A.Automaton c.args.automaton.now c.args.input.now c.in-Some.start
    × IsAheadIn g.A.Automaton c.args.automaton.now c.args.input.now c.in-Some.start c.args.input.now.span.start
    c.args.ahead.now = rw c.in-Some.is at c.requires.reads in
    Here c.search_ahead.ensures.found
    (best-fresh _ _ c.args.last c.search_ahead.result c.requires.inside may.0.filled c.search_ahead.ensures.found)

pub search_ahead-requires-clause-may : goal.search_ahead-requires-clause-may
search_ahead-requires-clause-may g c = grind (arith, common_steps)

pub search_ahead-requires-clause-ordered : goal.search_ahead-requires-clause-ordered
search_ahead-requires-clause-ordered g c = grind (arith, common_steps)

pub search_ahead-requires-clause-ahead : goal.search_ahead-requires-clause-ahead
search_ahead-requires-clause-ahead g c = grind (arith, common_steps)

pub next_pick-requires-clause-supported : goal.next_pick-requires-clause-supported
next_pick-requires-clause-supported g c = grind (arith, common_steps)

pub next_pick-requires-clause-within : goal.next_pick-requires-clause-within
next_pick-requires-clause-within g c = grind (arith, common_steps)

pub next_pick-requires-clause-last : goal.next_pick-requires-clause-last
next_pick-requires-clause-last g c = grind (arith, common_steps)

pub returns-in-Some-clause-asked : goal.returns-in-Some-clause-asked
returns-in-Some-clause-asked g c = grind (arith, common_steps)

pub returns-in-Some-clause-paid : goal.returns-in-Some-clause-paid
returns-in-Some-clause-paid g c = grind (arith, common_steps)

pub returns-in-Some-clause-reads : goal.returns-in-Some-clause-reads
returns-in-Some-clause-reads g c = grind (arith, common_steps)

pub returns-in-None-clause-asked : goal.returns-in-None-clause-asked
returns-in-None-clause-asked g c = grind (arith, common_steps)

pub returns-in-None-clause-paid : goal.returns-in-None-clause-paid
returns-in-None-clause-paid g c = grind (arith, common_steps)

pub returns-in-None-clause-reads : goal.returns-in-None-clause-reads
returns-in-None-clause-reads g c = grind (arith, common_steps)

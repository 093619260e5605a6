-- Each call returns the first pick that is left.
use Rattle.ac_automaton.proofs.in_memory.iter.IterLemmas.{pick-yields, yields-progress}
use Rattle.ac_automaton.proofs.in_memory.iter.ahead.FindIterAheadIterator.next.Goals as goal

pub returns-clause-steps : goal.returns-clause-steps
returns-clause-steps g c =
    pick-yields _ _ c.next_counted.ensures.kept.within.1 c.next_counted.ensures.gives.0 c.next_counted.ensures.gives.1

pub returns-clause-goes : goal.returns-clause-goes
returns-clause-goes g c =
    yields-progress _
    (pick-yields _ _ c.next_counted.ensures.kept.within.1 c.next_counted.ensures.gives.0 c.next_counted.ensures.gives.1)

-- Each source of matches counts the next match as its contract says.
use Rattle.ac_automaton.proofs.in_memory.iter.IterLemmas.{pick-yields}
use Rattle.acsub.proofs.run.CountLemmas.{listing-counted, walk-counted}
use Rattle.acsub.proofs.matches.Matches.next_counted.Goals as goal

pub returns-in-Walk-clause-yields : goal.returns-in-Walk-clause-yields
returns-in-Walk-clause-yields c =
    rw c.in-Walk.is
    (pick-yields _ _ c.next_counted.ensures.kept.within.1 c.next_counted.ensures.gives.0 c.next_counted.ensures.gives.1)

pub returns-in-Walk-clause-counts : goal.returns-in-Walk-clause-counts
returns-in-Walk-clause-counts c =
    λ plan n begun h.
    walk-counted _ _ _ _ _ c.next_counted.ensures.gives.1 c.next_counted.ensures.cost.0 c.next_counted.ensures.cost.1
    plan n begun (rw c.in-Walk.is at h)

pub returns-in-Overlapping-clause-counts : goal.returns-in-Overlapping-clause-counts
returns-in-Overlapping-clause-counts c =
    λ plan n begun h.
    listing-counted _ _ _ _ _ c.next_counted-in-Overlapping.ensures.gives.1 c.next_counted-in-Overlapping.ensures.cost.0
    c.next_counted-in-Overlapping.ensures.cost.1 plan n begun (rw c.in-Overlapping.is at h)

-- The pick of the walk is the first of what was left of it.
use Rattle.std.proofs.Common.{false}
use Rattle.ac_automaton.proofs.in_memory.iter.IterLemmas.{pick-yields}
use Rattle.ac_c.proofs.walking.WalkingLemmas.{walks-pick}
use Rattle.ac_c.proofs.walking.FindIterWalking.next_match.Goals as goal

pub returns-clause-yields : goal.returns-clause-yields
returns-clause-yields c =
    let n = c.next_counted.ensures in
    pick-yields c.args.self.now c.next_counted.result n.kept.within.1 n.gives.0 n.gives.1

pub returns-clause-cost : goal.returns-clause-cost
returns-clause-cost c =
    let n = c.next_counted.ensures in
    walks-pick false c.args.self.now c.next_counted.new.self c.next_counted.result _ _ n.gives n.cost.0 n.kept n.cost.3
    n.cost.2.walk

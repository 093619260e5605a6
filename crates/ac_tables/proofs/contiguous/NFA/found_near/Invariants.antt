use Rattle.std.proofs.Common.{◌-◌}
use Rattle.ac_tables.specs.Contiguous.NearReads.{IsFoundTo}
use Rattle.ac_tables.proofs.contiguous.NFA.found_near.Given as goal

abbrev pub invariant-loop-at : goal.invariant-loop-at
invariant-loop-at l = IsFoundTo l.self l.most l.at l.next_depth l.depth l.found.items

abbrev pub decreases-loop-at : goal.decreases-loop-at
decreases-loop-at l = l.most - l.at

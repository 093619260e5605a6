use Rattle.std.proofs.Common.{◌≡◌, Some}
use Rattle.ac_input.specs.Occurrence.{Occurrence}
use Rattle.test_plain.specs.Naive.{PlainOccurs}
use Rattle.test_plain.proofs.plain.Ranks.{ranks_left}
use Rattle.test_plain.proofs.plain.Lists.{ListsUpTo}
use Rattle.test_plain.proofs.plain.Naive.listing.Given as goal

abbrev pub invariant-loop-next : goal.invariant-loop-next
invariant-loop-next l =
    record {
      lists : ListsUpTo l.self l.before l.found.items;
      placed : (b : Occurrence) → l.before ≡ Some b
          → PlainOccurs l.self b;
    }

abbrev pub decreases-loop-next : goal.decreases-loop-next
decreases-loop-next l = ranks_left l.self l.before

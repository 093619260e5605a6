-- No occurrence passed over is one that the listing gives.
use Rattle.std.proofs.Common.{◌≡◌, length}
use Rattle.ac_automaton.specs.InMemory.Overlapping.OverlappingIter.{rest_of}
use Rattle.ac_c.specs.List.{RunsTo, wanted_of}
use Rattle.ac_c.proofs.list.next_wanted.Given as goal

abbrev pub invariant-loop-found : goal.invariant-loop-found
invariant-loop-found l = record {
  wanted : wanted_of l.haystack l.wanted l.matches ≡ wanted_of l.haystack l.wanted l.fn.matches;
  cost : RunsTo l.fn.matches l.matches l.fn.steps l.steps;
}

abbrev pub decreases-loop-found : goal.decreases-loop-found
decreases-loop-found l = length (rest_of l.matches)

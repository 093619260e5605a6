-- The buffer begins with the occurrences given so far, and the run has the rest.
use Rattle.std.proofs.Common.{◌≡◌, ◌<◌, ◌≤◌, length, map, take, drop}
use Rattle.ac_automaton.specs.InMemory.Overlapping.OverlappingIter.{CountsRun, LooksNear}
use Rattle.ac_c.specs.Found.{shown}
use Rattle.ac_c.specs.List.{RunsTo, before_of, place_after, wanted_of}
use Rattle.ac_c.proofs.list.fill.Given as goal

abbrev pub invariant-loop-at : goal.invariant-loop-at
invariant-loop-at l = record {
  rest : wanted_of l.haystack l.wanted l.matches ≡ drop l.at (wanted_of l.haystack l.wanted l.fn.matches);
  enough : l.at ≤ length (wanted_of l.haystack l.wanted l.fn.matches);
  given : take l.at l.out ≡ map shown (take l.at (wanted_of l.haystack l.wanted l.fn.matches));
  cost : RunsTo l.fn.matches l.matches l.fn.steps l.steps;
  counted : 0 < l.at → CountsRun l.matches (before_of (place_after l.wanted.place l.out l.at));
  near : 0 < l.at → LooksNear l.matches (before_of (place_after l.wanted.place l.out l.at));
}

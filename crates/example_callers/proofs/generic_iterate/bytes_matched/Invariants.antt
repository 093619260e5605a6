use Rattle.std.proofs.Common.{◌≡◌, ◌+◌}
use Rattle.ac_automaton.specs.InMemory.Iter.{left_of}
use Rattle.ac_automaton.specs.InMemory.Replace.{matches_in}
use Rattle.example_callers.specs.Callers.{bytes_in}
use Rattle.example_callers.proofs.generic_iterate.bytes_matched.Given as goal

abbrev pub invariant-loop-found : goal.invariant-loop-found
invariant-loop-found g l =
    (goal.iterator-loop-found g).can_next l.found-iterator
    × (goal.iterator-loop-found g).is_finite l.found-iterator
    × (l.bytes + bytes_in (left_of l.found-iterator) ≡ bytes_in (matches_in (g.A.Automaton.built l.automaton) l.text))

use Rattle.std.proofs.Common.{◌≡◌, ◌+◌, length}
use Rattle.ac_input.specs.Input.{whole_of}
use Rattle.ac_automaton.specs.InMemory.Overlapping.OverlappingIter.{rest_of}
use Rattle.example_callers.proofs.generic_overlap.pass_occurrences.Given as goal

abbrev pub invariant-loop : goal.invariant-loop
invariant-loop g l =
    record {
      built : l.occurrences.built ≡ g.A.Automaton.built l.automaton;
      asked : l.occurrences.asked ≡ whole_of l.text;
      told : l.steps.looked.value ≡ l.fn.steps.looked.value + l.occurrences.looked;
    }

abbrev pub decreases-loop : goal.decreases-loop
decreases-loop g l = length (rest_of l.occurrences)

use Rattle.std.proofs.Common.{◌≡◌, min, length}
use Rattle.ac_input.specs.Input.{whole_of}
use Rattle.ac_automaton.specs.Automaton.{listing_in}
use Rattle.ac_automaton.specs.InMemory.Overlapping.{CameFrom}
use Rattle.example_callers.proofs.generic_overlap.occurrence.Given as goal

abbrev pub invariant-loop : goal.invariant-loop
invariant-loop g l =
    record {
      came : CameFrom (g.A.Automaton.built l.automaton) (g.A.Automaton.Reaches l.automaton)
          (g.A.Automaton.matches l.automaton) l.input l.state;
      shown : l.state.shown.value ≡ min l.counter
          (length (listing_in (g.A.Automaton.built l.automaton) (whole_of l.text)));
    }

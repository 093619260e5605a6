-- The state came from calls of this automaton over this input.
use Rattle.ac_automaton.specs.InMemory.Overlapping.{CameFrom}
use Rattle.test_searches.proofs.asserts.shows_in_turn.Given as goal

abbrev pub invariant-loop-at : goal.invariant-loop-at
invariant-loop-at g l =
    CameFrom (g.A.Automaton.built l.automaton) (g.A.Automaton.Reaches l.automaton)
    (g.A.Automaton.matches l.automaton) l.input l.state

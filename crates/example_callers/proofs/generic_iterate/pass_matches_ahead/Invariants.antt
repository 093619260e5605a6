use Rattle.std.proofs.Common.{length}
use Rattle.ac_automaton.specs.InMemory.Iter.{left_of}
use Rattle.example_callers.proofs.generic_iterate.WalkLemmas.{HasPassed}
use Rattle.example_callers.proofs.generic_iterate.pass_matches_ahead.Given as goal

abbrev pub invariant-loop : goal.invariant-loop
invariant-loop g l = HasPassed (g.A.Automaton.built l.automaton) l.text l.fn.steps l.steps l.matches

abbrev pub decreases-loop : goal.decreases-loop
decreases-loop g l = length (left_of l.matches)

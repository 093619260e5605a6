-- Where the walk stands, and what it knows there.
use Rattle.std.proofs.Common.{◌-◌}
use Rattle.ac_automaton.proofs.in_memory.find.FindWalkLemmas.{Walks}
use Rattle.ac_automaton.proofs.in_memory.find.walk.Given as goal

abbrev pub invariant-loop-best : goal.invariant-loop-best
invariant-loop-best g l = Walks g.A.Automaton l.automaton l.input l.fn.at l.cursor l.best l.initial.steps l.steps

abbrev pub decreases-loop-best : goal.decreases-loop-best
decreases-loop-best g l = l.input.span.end - l.cursor.at

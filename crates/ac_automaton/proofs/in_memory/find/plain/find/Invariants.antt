-- Where a search stands that has a match, and what it knows there.
use Rattle.std.proofs.Common.{Some, ◌-◌}
use Rattle.ac_automaton.proofs.in_memory.find.FindWalkLemmas.{HasAsked}
use Rattle.ac_automaton.proofs.in_memory.find.plain.find.Given as goal

abbrev pub invariant-loop-cursor : goal.invariant-loop-cursor
invariant-loop-cursor g l =
    HasAsked g.A.Automaton l.automaton l.input l.input.span.start l.cursor (Some l.best) l.fn.steps l.steps

abbrev pub decreases-loop-cursor : goal.decreases-loop-cursor
decreases-loop-cursor g l = l.input.span.end - l.cursor.at

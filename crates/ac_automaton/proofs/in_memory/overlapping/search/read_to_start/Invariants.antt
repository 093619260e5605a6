-- What the walk knows where it stands.
use Rattle.std.proofs.Common.{◌+◌, ◌-◌}
use Rattle.ac_automaton.proofs.in_memory.overlapping.ShowLemmas.{HasWalkedFrom}
use Rattle.ac_automaton.proofs.in_memory.overlapping.search.read_to_start.Given as goal

abbrev pub invariant-loop-cursor : goal.invariant-loop-cursor
invariant-loop-cursor g l =
    HasWalkedFrom g.A.Automaton l.automaton l.input l.fn.cursor l.cursor (l.cursor.at + 1) l.initial.steps l.steps

abbrev pub decreases-loop-cursor : goal.decreases-loop-cursor
decreases-loop-cursor g l = l.input.span.end - l.cursor.at

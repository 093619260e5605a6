use Rattle.std.proofs.Common.{◌≡◌, take}
use Rattle.example_callers.proofs.states.patterns_at.Given as goal

abbrev pub invariant-loop-index : goal.invariant-loop-index
invariant-loop-index g l = l.patterns.items ≡ take l.index (g.A.Automaton.matches l.automaton l.sid)

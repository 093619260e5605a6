-- The search has met a match, which a better one may still replace.
use Rattle.std.proofs.Common.{◌-◌}
use Rattle.ac_automaton.proofs.in_memory.find.ahead.MetLemmas.{HasMet}
use Rattle.ac_automaton.proofs.in_memory.find.ahead.find.Given as goal

abbrev pub invariant-loop-cursor : goal.invariant-loop-cursor
invariant-loop-cursor g l =
    HasMet g.A.Automaton l.automaton l.input l.cursor l.best l.fn.ahead l.ahead l.fn.steps l.steps

abbrev pub decreases-loop-cursor : goal.decreases-loop-cursor
decreases-loop-cursor g l = l.input.span.end - l.cursor.at

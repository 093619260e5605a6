-- No entry so far counts.
use Rattle.std.proofs.Common.{◌-◌}
use Rattle.ac_automaton.proofs.in_memory.find.TakenLemmas.{NoneCountsBefore}
use Rattle.ac_automaton.proofs.in_memory.find.whole_match.Given as goal

abbrev pub invariant-loop-index : goal.invariant-loop-index
invariant-loop-index g l =
    NoneCountsBefore (g.A.Automaton.built l.automaton).dictionary (l.span.end - l.span.start)
    (g.A.Automaton.matches l.automaton l.sid) l.index

-- What the walk knows where it stands.
use Rattle.std.proofs.Common.{◌+◌, ◌-◌}
use Rattle.ac_automaton.specs.Ahead.{IsPaid}
use Rattle.ac_automaton.specs.InMemory.Overlapping.OverlappingSearch.{IsAheadFrom}
use Rattle.ac_automaton.proofs.in_memory.overlapping.ShowLemmas.{HasWalkedFrom}
use Rattle.ac_automaton.proofs.in_memory.overlapping.ahead.show_later.Given as goal

abbrev pub invariant-loop-cursor : goal.invariant-loop-cursor
invariant-loop-cursor g l = record {
  walked : IsPaid l.initial.ahead l.ahead l.steps
      (λ paid. HasWalkedFrom g.A.Automaton l.automaton l.input l.fn.cursor l.cursor (l.cursor.at + 1) l.initial.steps
      paid);
  ahead : IsAheadFrom g.A.Automaton l.automaton l.input l.cursor l.ahead;
}

abbrev pub decreases-loop-cursor : goal.decreases-loop-cursor
decreases-loop-cursor g l = l.input.span.end - l.cursor.at

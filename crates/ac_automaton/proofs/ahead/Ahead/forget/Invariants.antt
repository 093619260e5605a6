-- Each note that is passed over is lost.
use Rattle.std.proofs.Common.{◌≡◌, ◌-◌}
use Rattle.ac_automaton.specs.Ahead.{KeepsNotes, bytes_ahead}
use Rattle.ac_automaton.proofs.ahead.Ahead.forget.Given as goal

abbrev pub invariant-loop-self : goal.invariant-loop-self
invariant-loop-self l = record {
  same : KeepsNotes l.fn.self l.self;
  ahead : bytes_ahead l.self ≡ bytes_ahead l.fn.self;
}

abbrev pub decreases-loop-self : goal.decreases-loop-self
decreases-loop-self l = l.self.end - l.self.next

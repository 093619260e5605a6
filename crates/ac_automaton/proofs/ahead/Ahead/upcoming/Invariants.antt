-- What is left of the notes from the place on stays as it is.
use Rattle.std.proofs.Common.{◌≡◌, ◌-◌}
use Rattle.ac_automaton.specs.Ahead.{KeepsNotes, bytes_ahead, left_notes, notes_from}
use Rattle.ac_automaton.proofs.ahead.Ahead.upcoming.Given as goal

abbrev pub invariant-loop-self : goal.invariant-loop-self
invariant-loop-self l = record {
  same : KeepsNotes l.fn.self l.self;
  left : notes_from l.at (left_notes l.self) ≡ notes_from l.at (left_notes l.fn.self);
  ahead : bytes_ahead l.self ≡ bytes_ahead l.fn.self;
}

abbrev pub decreases-loop-self : goal.decreases-loop-self
decreases-loop-self l = l.self.end - l.self.next

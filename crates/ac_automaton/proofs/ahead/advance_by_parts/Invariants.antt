-- What is known of the state after the bytes read so far, and of what was read ahead.
use Rattle.std.proofs.Common.{length, drop, ◌+◌, ◌-◌, ◌≤◌}
use Rattle.ac_input.specs.declared.search.Anchored.TheVariants.{No}
use Rattle.ac_automaton.specs.Ahead.{IsPaid, StaysReadOnce}
use Rattle.ac_automaton.specs.Automaton.{is_matching}
use Rattle.ac_automaton.specs.InMemory.Find.Ahead.{IsAheadOf}
use Rattle.ac_automaton.proofs.lemmas.CursorLemmas.{HasAdvanced}
use Rattle.ac_automaton.proofs.ahead.advance_by_parts.Given as goal

abbrev pub invariant-loop-read : goal.invariant-loop-read
invariant-loop-read g l = record {
  within : l.read ≤ length l.bytes - l.from;
  has : IsPaid l.fn.ahead l.ahead l.steps
      (λ paid. HasAdvanced (g.A.Automaton.built l.automaton) (g.A.Automaton.Reaches l.automaton) No
      (is_matching (g.A.Automaton.matches l.automaton)) l.fn.sid (drop l.from l.bytes) l.read l.current l.initial.steps
      paid);
  ahead : IsAheadOf g.A.Automaton l.automaton l.anew l.bytes (l.from + l.read) l.current l.ahead;
  once : StaysReadOnce l.bytes l.fn.ahead l.ahead;
}

abbrev pub decreases-loop-read : goal.decreases-loop-read
decreases-loop-read g l = length l.bytes - l.from - l.read

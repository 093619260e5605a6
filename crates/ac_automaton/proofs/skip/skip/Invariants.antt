-- What is known of the state after the bytes read so far.
use Rattle.std.proofs.Common.{length, ◌-◌, ◌≤◌}
use Rattle.ac_input.specs.declared.search.Anchored.TheVariants.{No}
use Rattle.ac_automaton.specs.Look.{is_between}
use Rattle.ac_automaton.proofs.lemmas.CursorLemmas.{HasAdvanced}
use Rattle.ac_automaton.proofs.skip.skip.Given as goal

abbrev pub invariant-loop-read : goal.invariant-loop-read
invariant-loop-read g l =
    (l.read ≤ length l.bytes) × HasAdvanced (g.A.LookUp.built l.automaton) (g.A.LookUp.Reaches l.automaton) No
    (is_between l.to) l.fn.sid l.bytes l.read l.current l.initial.steps l.steps

abbrev pub decreases-loop-read : goal.decreases-loop-read
decreases-loop-read g l = length l.bytes - l.read

-- What is known of the state after the bytes read so far.
use Rattle.ac_automaton.specs.Look.{is_between}
use Rattle.ac_automaton.proofs.lemmas.CursorLemmas.{HasAdvanced}
use Rattle.ac_automaton.proofs.look.LookUp.read_until.Given as goal

abbrev pub invariant-loop-read : goal.invariant-loop-read
invariant-loop-read g l =
    HasAdvanced (g.Self.LookUp.built l.self) (g.Self.LookUp.Reaches l.self) l.anchored (is_between l.to) l.fn.sid
    l.bytes l.read l.current l.initial.steps l.steps

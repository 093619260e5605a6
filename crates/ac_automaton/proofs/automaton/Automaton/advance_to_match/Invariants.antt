-- What is known about the state after the bytes read so far.
use Rattle.ac_automaton.specs.Automaton.{is_matching}
use Rattle.ac_automaton.proofs.lemmas.CursorLemmas.{HasAdvanced}
use Rattle.ac_automaton.proofs.automaton.Automaton.advance_to_match.Given as goal

abbrev pub invariant-loop-read : goal.invariant-loop-read
invariant-loop-read g l =
    HasAdvanced (g.Self.Automaton.built l.self) (g.Self.Automaton.Reaches l.self) l.anchored
    (is_matching (g.Self.Automaton.matches l.self)) l.fn.sid l.bytes l.read l.current l.initial.steps l.steps

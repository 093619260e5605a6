-- The bytes so far lead to the state.
use Rattle.ac_automaton.specs.Automaton.{IsReached}
use Rattle.test_searches.proofs.calls.reached.Given as goal

abbrev pub invariant-loop-byte : goal.invariant-loop-byte
invariant-loop-byte g l = IsReached (g.A.Automaton.Reaches l.automaton l.anchored) l.sid

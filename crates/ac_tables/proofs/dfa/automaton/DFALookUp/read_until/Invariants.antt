use Rattle.ac_automaton.proofs.lemmas.CursorLemmas.{HasAdvanced}
use Rattle.ac_automaton.specs.Look.{is_between}
use Rattle.ac_tables.specs.Dfa.Reads.{dfa_built_as, IsDfaRead}
use Rattle.ac_tables.proofs.dfa.automaton.DFALookUp.read_until.Given as goal

abbrev pub invariant-loop-read : goal.invariant-loop-read
invariant-loop-read l =
    HasAdvanced (dfa_built_as l.self) (IsDfaRead l.self) l.anchored (is_between l.to) l.fn.sid l.bytes l.read l.current
    l.initial.steps l.steps

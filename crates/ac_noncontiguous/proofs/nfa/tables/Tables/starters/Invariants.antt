use Rattle.ac_automaton.specs.Starters.{SkipsBelow}
use Rattle.ac_noncontiguous.specs.Nfa.Lookups.{IsIdle}
use Rattle.ac_noncontiguous.proofs.nfa.tables.Tables.starters.Given as goal

abbrev pub invariant-loop-byte : goal.invariant-loop-byte
invariant-loop-byte l = SkipsBelow (IsIdle l.self) l.byte l.starters

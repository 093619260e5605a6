use Rattle.ac_automaton.specs.Starters.{SkipsBelow}
use Rattle.ac_tables.specs.Dfa.Lookups.{IsIdleIn}
use Rattle.ac_tables.proofs.dfa.table.Table.starters.Given as goal

abbrev pub invariant-loop-byte : goal.invariant-loop-byte
invariant-loop-byte l = SkipsBelow (IsIdleIn l.self) l.byte l.starters

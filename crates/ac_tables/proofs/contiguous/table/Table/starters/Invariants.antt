use Rattle.ac_automaton.specs.Starters.{SkipsBelow}
use Rattle.ac_tables.specs.Contiguous.WordReads.{IsIdleAt}
use Rattle.ac_tables.proofs.contiguous.table.Table.starters.Given as goal

abbrev pub invariant-loop-byte : goal.invariant-loop-byte
invariant-loop-byte l = SkipsBelow (IsIdleAt l.self) l.byte l.starters

use Rattle.std.proofs.Common.{◌≡◌, ◌++◌}
use Rattle.ac_noncontiguous.specs.Nfa.ReadCalls.{edges_in}
use Rattle.ac_tables.specs.Dfa.Filling.{number_in, AreWritten}
use Rattle.ac_tables.specs.Dfa.Fill.{row_plan_of}
use Rattle.ac_tables.proofs.dfa.fill.Filler.write.Given as goal

abbrev pub invariant-loop-byte : goal.invariant-loop-byte
invariant-loop-byte l = record {
  can_next : (goal.iterator-loop-byte).can_next l.byte-iterator;
  is_finite : (goal.iterator-loop-byte).is_finite l.byte-iterator;
  items : l.yielded ++ l.byte-iterator ≡ edges_in l.self.nfa.now l.fn.sid;
  written : AreWritten (row_plan_of l.self) l.fn.anchored (number_in (row_plan_of l.self) l.fn.anchored l.fn.sid)
      l.yielded l.fn.trans l.trans;
}

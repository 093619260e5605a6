use Rattle.std.proofs.Common.{false, ◌+◌, ◌-◌}
use Rattle.ac_input.specs.Work.{longest}
use Rattle.ac_automaton.proofs.automaton.LinkedLemmas.{HasFollowed}
use Rattle.ac_tables.specs.Contiguous.Reads.{contiguous_dictionary, IsLaidOut, IsMet}
use Rattle.ac_tables.specs.Contiguous.WordReads.{ByteLeadsTo}
use Rattle.ac_tables.proofs.contiguous.NFA.follow.Given as goal

abbrev pub invariant-loop-from : goal.invariant-loop-from
invariant-loop-from l = record {
  met : IsMet l.self false l.from;
  stuck : ByteLeadsTo l.self.table l.from l.byte 1;
  followed : HasFollowed (contiguous_dictionary l.self) (IsLaidOut l.self) l.self.table.start l.fn.sid l.byte l.from
      l.initial.steps l.steps;
}

abbrev pub decreases-loop-from : goal.decreases-loop-from
decreases-loop-from l =
    longest (contiguous_dictionary l.self).patterns + l.initial.steps.looked.value - l.steps.looked.value

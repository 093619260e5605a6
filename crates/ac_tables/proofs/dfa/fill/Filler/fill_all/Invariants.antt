use Rattle.std.proofs.Common.{◌+◌, ◌-◌, ◌≤◌}
use Rattle.ac_tables.specs.Dfa.Filling.{AreRowsUpTo}
use Rattle.ac_tables.specs.Dfa.Fill.{row_plan_of}
use Rattle.ac_tables.proofs.dfa.fill.Filler.fill_all.Given as goal

abbrev pub invariant-loop-low : goal.invariant-loop-low
invariant-loop-low l = record {
  low_past : 2 ≤ l.low;
  low_in : l.low ≤ l.start;
  high_past : l.start + 2 ≤ l.high;
  high_in : l.high ≤ l.states;
  rows : AreRowsUpTo (row_plan_of l.self) l.low l.high l.trans;
}

abbrev pub decreases-loop-low : goal.decreases-loop-low
decreases-loop-low l = (l.start - l.low) + (l.states - l.high)

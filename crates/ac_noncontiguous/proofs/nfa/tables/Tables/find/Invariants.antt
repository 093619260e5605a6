use Rattle.std.proofs.Common.{◌-◌}
use Rattle.ac_noncontiguous.proofs.nfa.LookupLemmas.{IsHalved}
use Rattle.ac_noncontiguous.proofs.nfa.tables.Tables.find.Given as goal

abbrev pub invariant-loop-low : goal.invariant-loop-low
invariant-loop-low l = IsHalved l.self.transitions.items l.fn.from l.fn.end l.byte l.low l.high

abbrev pub decreases-loop-low : goal.decreases-loop-low
decreases-loop-low l = l.high - l.low

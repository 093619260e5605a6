-- Each lane has read as much, and its notes cover it.
use Rattle.std.proofs.Common.{◌-◌}
use Rattle.ac_input.specs.declared.search.Anchored.TheVariants.{No}
use Rattle.ac_automaton.specs.Ahead.{HaveNoted, HaveRead, HaveRoomFor, HaveWalked, is_up_to}
use Rattle.ac_automaton.proofs.lanes.read_lanes.Given as goal

abbrev pub invariant-loop-left : goal.invariant-loop-left
invariant-loop-left g l = record {
  left : HaveRoomFor l.left l.lanes;
  walked : HaveWalked (g.A.LookUp.Reaches l.automaton No) (is_up_to l.last) l.bytes l.lanes;
  noted : HaveNoted g.A.LookUp l.automaton l.anew l.bytes l.notes l.initial.lanes l.lanes;
  read : HaveRead l.initial.lanes l.lanes l.initial.steps l.steps;
}

abbrev pub decreases-loop-left : goal.decreases-loop-left
decreases-loop-left g l = l.lanes.a.end - l.lanes.a.at

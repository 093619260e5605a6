-- How far each lane has read.
use Rattle.std.proofs.Common.{◌+◌, ◌*◌}
use Rattle.ac_input.specs.declared.search.Anchored.TheVariants.{No}
use Rattle.ac_input.specs.Steps.{Done}
use Rattle.ac_automaton.specs.Ahead.{HasWalked, is_up_to}
use Rattle.ac_automaton.proofs.lanes.walk.Given as goal

abbrev pub invariant-loop-read : goal.invariant-loop-read
invariant-loop-read g l = record {
  a : HasWalked (g.A.LookUp.Reaches l.automaton No) (is_up_to l.last) l.bytes
      (record l.lanes.a { at = l.lanes.a.at + l.read; sid = l.a });
  b : HasWalked (g.A.LookUp.Reaches l.automaton No) (is_up_to l.last) l.bytes
      (record l.lanes.b { at = l.lanes.b.at + l.read; sid = l.b });
  c : HasWalked (g.A.LookUp.Reaches l.automaton No) (is_up_to l.last) l.bytes
      (record l.lanes.c { at = l.lanes.c.at + l.read; sid = l.c });
  d : HasWalked (g.A.LookUp.Reaches l.automaton No) (is_up_to l.last) l.bytes
      (record l.lanes.d { at = l.lanes.d.at + l.read; sid = l.d });
  counted : Done (4 * l.read) 0 0 l.initial.steps l.steps;
}

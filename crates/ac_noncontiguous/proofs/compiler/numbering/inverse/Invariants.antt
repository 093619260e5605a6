use Rattle.std.proofs.Common.{◌≡◌, ◌≤◌, length}
use Rattle.ac_noncontiguous.specs.Compiler.Numbering.{AreFirstNumbers}
use Rattle.ac_noncontiguous.proofs.compiler.numbering.inverse.Given as goal

abbrev pub invariant-loop-from : goal.invariant-loop-from
invariant-loop-from l =
    record {
      some : 2 ≤ l.from;
      within : l.from ≤ length l.at;
      counted : length l.of.items ≡ l.states;
      first : AreFirstNumbers l.at l.from l.of.items;
    }

abbrev pub decreases-loop-from : goal.decreases-loop-from
decreases-loop-from l = l.from

use Rattle.std.proofs.Common.{◌≡◌, ℕ, ◌-◌, ◌≤◌, ◌^◌, List, false, take, vec_len}
use Rattle.std.specs.List.{concat}
use Rattle.ac_automaton.specs.Stream.Devices.Moved.{AreFilled, HasGiven}
use Rattle.acsub.proofs.input.read_whole.Given as goal

abbrev pub invariant-loop-input : goal.invariant-loop-input
invariant-loop-input g l = record {
  gained : List (List ℕ);
  gave : HasGiven g.R.Read.remaining l.fn.reader l.reader gained 0;
  filled : AreFilled gained;
  is : take l.filled l.input.items ≡ concat gained;
  within : l.filled ≤ vec_len l.input;
  open_still : l.reader.ended ≡ false;
}

abbrev pub decreases-loop-input : goal.decreases-loop-input
decreases-loop-input g l = 2 ^ 64 - l.filled

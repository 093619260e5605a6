-- No file was made yet.
use Rattle.std.proofs.Common.{◌≡◌}
use Rattle.acsub.proofs.in_place.create_in.Given as goal

abbrev pub invariant-loop-n : goal.invariant-loop-n
invariant-loop-n g l = l.swap ≡ l.fn.swap

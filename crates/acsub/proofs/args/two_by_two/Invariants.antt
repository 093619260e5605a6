use Rattle.std.proofs.Common.{◌≡◌, ◌++◌, length}
use Rattle.ac_input.specs.Pairing.{named}
use Rattle.acsub.proofs.args.two_by_two.Given as goal

abbrev pub invariant-loop-rest : goal.invariant-loop-rest
invariant-loop-rest l = l.bytes ≡ named l.pairs.items ++ l.rest

abbrev pub decreases-loop-rest : goal.decreases-loop-rest
decreases-loop-rest l = length l.rest

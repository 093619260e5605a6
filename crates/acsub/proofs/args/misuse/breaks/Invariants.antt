use Rattle.std.proofs.Common.{◌≡◌, false, take}
use Rattle.std.specs.List.{list_any}
use Rattle.acsub.specs.Args.Misuse.{ends_side}
use Rattle.acsub.proofs.args.misuse.breaks.Given as goal

abbrev pub invariant-loop-byte : goal.invariant-loop-byte
invariant-loop-byte l = list_any ends_side (take l.byte-index l.side) ≡ false

use Rattle.std.proofs.Common.{◌≡◌, false, take}
use Rattle.std.specs.List.{list_any}
use Rattle.clap.specs.Walk.{texts}
use Rattle.acsub.specs.Args.Misuse.{ends_side}
use Rattle.acsub.proofs.args.misuse.has_break.Given as goal

abbrev pub invariant-loop-side : goal.invariant-loop-side
invariant-loop-side l = list_any (list_any ends_side) (take l.side-index (texts l.sides)) ≡ false

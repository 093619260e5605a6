use Rattle.std.proofs.Common.{◌≡◌, map, take}
use Rattle.acsub.specs.Rules.Sides.{rules_of, replacements_of}
use Rattle.acsub.proofs.rules.Rules.replacements.Given as goal

abbrev pub invariant-loop-sides : goal.invariant-loop-sides
invariant-loop-sides l =
    map (λ side. side.now) l.replacements.items ≡ replacements_of (rules_of (take l.sides-index l.sides-items))

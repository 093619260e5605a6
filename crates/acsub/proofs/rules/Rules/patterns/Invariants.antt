use Rattle.std.proofs.Common.{◌≡◌, map, take}
use Rattle.acsub.specs.Rules.Sides.{rules_of, rule_patterns}
use Rattle.acsub.proofs.rules.Rules.patterns.Given as goal

abbrev pub invariant-loop-sides : goal.invariant-loop-sides
invariant-loop-sides l =
    map (λ pattern. pattern.now) l.patterns.items ≡ rule_patterns (rules_of (take l.sides-index l.sides-items))

-- Rules as the program stores them: a pattern and a replacement each.
use Rattle.std.specs.Prelude.{ℕ, List, map}
use Rattle.ac_input.specs.Rules.{Rule}
use Rattle.acsub.specs.declared.rules.Sides.{Sides}

-- the rule that a pair of sides stands for
abbrev pub rule_of : Sides → Rule
rule_of sides = (sides.pattern.items, sides.replacement.items)

-- the rules that these pairs of sides stand for, in order
abbrev pub rules_of : List Sides → List Rule
rules_of kept = map rule_of kept

-- the patterns of rules, and their replacements
abbrev pub rule_patterns : List Rule → List (List ℕ)
rule_patterns rules = map (λ rule. rule.0) rules

abbrev pub replacements_of : List Rule → List (List ℕ)
replacements_of rules = map (λ rule. rule.1) rules

use Rattle.std.proofs.Common.{length}
use Rattle.ac_input.specs.Rules.{BeginsWithAll}
use Rattle.acsub.specs.Rules.File.{grammar_of}
use Rattle.acsub.specs.Rules.Sides.{rules_of}
use Rattle.acsub.proofs.rules.keep_rules.Given as goal

abbrev pub invariant-loop-line : goal.invariant-loop-line
invariant-loop-line l = BeginsWithAll ((grammar_of l.form).begins l.bytes) l.bytes (rules_of l.sides.items) l.rest

abbrev pub decreases-loop-line : goal.decreases-loop-line
decreases-loop-line l = length l.rest

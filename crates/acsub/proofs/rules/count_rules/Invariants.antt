use Rattle.std.proofs.Common.{length}
use Rattle.acsub.specs.Rules.File.{grammar_of}
use Rattle.acsub.proofs.rules.GrammarLemmas.{BeginsWithCount}
use Rattle.acsub.proofs.rules.count_rules.Given as goal

abbrev pub invariant-loop-line : goal.invariant-loop-line
invariant-loop-line l = BeginsWithCount (grammar_of l.form) l.bytes l.count l.rest

abbrev pub decreases-loop-line : goal.decreases-loop-line
decreases-loop-line l = length l.rest

use Rattle.std.proofs.Common.{◌≢◌, ℕ, ◌<◌, []}
use Rattle.acsub.specs.Rules.Lines.{rule_at}
use Rattle.acsub.proofs.args.settings.has_empty_pattern.Given as goal

abbrev pub invariant-loop-i : goal.invariant-loop-i
invariant-loop-i l = (k : ℕ) → k < l.i → (rule_at l.rules k).0 ≢ []

use Rattle.std.proofs.Common.{ℕ, ◌<◌}
use Rattle.acsub.specs.Rules.Lines.{rule_at}
use Rattle.acsub.proofs.mask.UnusedLemmas.{LacksByte}
use Rattle.acsub.proofs.mask.is_in_no_pattern.Given as goal

abbrev pub invariant-loop-i : goal.invariant-loop-i
invariant-loop-i l = (k : ℕ) → k < l.i → LacksByte l.settings.pairing l.byte (rule_at l.rules k).0

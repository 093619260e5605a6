-- No rule up to the last has an empty pattern.
use Rattle.std.proofs.Common.{arith}
use Rattle.acsub.proofs.args.EmptyLemmas.{none-empty}
use Rattle.acsub.proofs.args.settings.has_empty_pattern.Goals as goal

pub returns : goal.returns
returns c = (
  λ is. let no : ⊥ = cc in absurd no,
  λ empty. absurd (none-empty c.args.rules.now (λ k lt.
      c.loop-i.invariant k (omega (arith, lt, c.loop-i-test.false, c.loop-i.auto.i-end, c.len-i-end.ensures))) empty),
)

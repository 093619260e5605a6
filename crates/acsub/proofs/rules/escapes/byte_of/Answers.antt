-- The byte has these digits.
use Rattle.std.proofs.Common.{refl}
use Rattle.acsub.proofs.rules.escapes.byte_of.Goals as goal

pub returns-in_err-high-clause-none : goal.returns-in_err-high-clause-none
returns-in_err-high-clause-none c =
    rw c.from_residual.ensures (λ byte spells. c.in_err-high.ensures.none spells.0 spells.2)

pub returns-in_err-low-clause-none : goal.returns-in_err-low-clause-none
returns-in_err-low-clause-none c =
    rw c.from_residual-in_err-low.ensures (λ byte spells. c.in_err-low.ensures.none spells.1 spells.3)

pub returns-clause-some : goal.returns-clause-some
returns-clause-some c =
    (c.in_ok-high.high, c.in_ok-low.low, c.in_ok-high.ensures.some.0, c.in_ok-low.ensures.some.0, refl, tt)

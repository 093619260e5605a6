-- No pattern opens where none can.
use Rattle.std.proofs.Common.{sym, subst}
use Rattle.ac_literal.specs.Openings.{CannotOpen}
use Rattle.ac_literal.proofs.openings.Openings.pass.Goals as goal

pub returns-in-Fronts-clause-passed : goal.returns-in-Fronts-clause-passed
returns-in-Fronts-clause-passed c = λ m are at within opens.
    are.marks c.args.bytes.now at opens
    (subst (λ way. CannotOpen way c.args.bytes.now at) (sym c.in-Fronts.is) (c.pass.ensures.passed at within))

pub returns-in-Grams-clause-passed : goal.returns-in-Grams-clause-passed
returns-in-Grams-clause-passed c = λ m are at within opens.
    are.marks c.args.bytes.now at opens
    (subst (λ way. CannotOpen way c.args.bytes.now at) (sym c.in-Grams.is) (c.pass-in-Grams.ensures.passed at within))

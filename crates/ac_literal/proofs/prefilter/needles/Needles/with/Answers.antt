use Rattle.std.proofs.Common.{sym, ap, ◌∙◌, subst}
use Rattle.ac_literal.specs.Prefilter.Needles.{is_needle, AreNeedles}
use Rattle.ac_literal.proofs.prefilter.NeedleLemmas.{three-four}
use Rattle.ac_literal.proofs.prefilter.needles.Needles.with.Goals as goal

pub returns-in-Three-clause-table : goal.returns-in-Three-clause-table
returns-in-Three-clause-table c =
    λ f are.
    three-four c.args.byte
    (subst (λ n. AreNeedles n f) c.in-Three.is are)
    (ap (λ n. is_needle n c.args.byte) (sym c.in-Three.is) ∙ sym c.if-has.ensures)

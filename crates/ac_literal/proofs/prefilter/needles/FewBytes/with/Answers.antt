use Rattle.std.proofs.Common.{sym, subst}
use Rattle.ac_literal.specs.Prefilter.Needles.{AreFew, AddsByte}
use Rattle.ac_literal.specs.declared.prefilter.needles.FewBytes.TheVariants as few
use Rattle.ac_literal.proofs.prefilter.NeedleLemmas.{few-some}
use Rattle.ac_literal.proofs.prefilter.needles.FewBytes.with.Goals as goal

pub returns-in-Some-with-clause-table : goal.returns-in-Some-with-clause-table
returns-in-Some-with-clause-table c =
    λ f are. c.in-Some-with.ensures.table f (subst (λ x. AreFew x f) c.in-Some.is are)

pub returns-in-Some-with-clause-more : goal.returns-in-Some-with-clause-more
returns-in-Some-with-clause-more c =
    subst (λ x. AddsByte x c.args.byte (few.Some c.in-Some-with.more)) (sym c.in-Some.is)
    (few-some c.in-Some-with.ensures.more)

use Rattle.std.proofs.Common.{sym, ◌∙◌, subst}
use Rattle.std.specs.Prelude.{IfSome}
use Rattle.ac_literal.specs.Packed.{AreServed}
use Rattle.ac_literal.proofs.prefilter.BuilderLemmas.{packed-serve, packed-missed}
use Rattle.ac_literal.proofs.prefilter.builder.Builders.build_packed.Goals as goal

pub returns : goal.returns
returns c =
    λ m several collected.
    packed-serve collected c.in-Some.is several (sym c.in_ok-searcher.ensures.value ∙ c.in-Some-2.is)
    (subst (λ r. IfSome r (λ s. AreServed s.patterns)) c.in-Some-2.is c.in_ok-searcher.ensures.served)

pub returns-in_default-2 : goal.returns-in_default-2
returns-in_default-2 c =
    λ m several collected demand.
    packed-missed collected c.in-Some.is (sym c.in_ok-searcher.ensures.value ∙ c.in_default-2.is) demand

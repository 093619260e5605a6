-- What is seen of the prepared says the same as what is inside it.
use Rattle.std.proofs.Common.{◌↔◌, true, false, subst}
use Rattle.std.specs.Prelude.{IsTrue}
use Rattle.acsub.specs.Run.Transformed.{IsStreamed}
use Rattle.acsub.proofs.prepared.Prepared.streamed.Goals as goal

pub returns-then-is_streamed-clause-some : goal.returns-then-is_streamed-clause-some
returns-then-is_streamed-clause-some c =
    subst (λ plan. IsTrue true ↔ IsStreamed plan) c.self.view_is c.if-is_streamed.ensures

pub returns-else-is_streamed-clause-some : goal.returns-else-is_streamed-clause-some
returns-else-is_streamed-clause-some c =
    subst (λ plan. IsTrue false ↔ IsStreamed plan) c.self.view_is c.if-is_streamed.ensures

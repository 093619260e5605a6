-- The settings that a builder has at first are for unanchored searches.
use Rattle.std.proofs.lemmas.Result.{IfOk-weaker}
use Rattle.example_callers.proofs.build.of_bytes.Goals as goal

pub returns-clause-starts : goal.returns-clause-starts
returns-clause-starts c = IfOk-weaker c.new.result _ _ (λ ac built. built.starts) c.new.ensures.served

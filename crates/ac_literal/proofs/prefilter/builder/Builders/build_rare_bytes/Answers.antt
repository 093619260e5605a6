use Rattle.ac_literal.proofs.prefilter.BuilderLemmas.{rare-serve}
use Rattle.ac_literal.proofs.prefilter.builder.Builders.build_rare_bytes.Goals as goal

pub returns : goal.returns
returns c =
    λ m collected. rare-serve collected c.in-Some.is c.if-not-self.false

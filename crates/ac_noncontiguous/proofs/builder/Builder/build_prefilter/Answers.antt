-- A prefilter is built from the patterns that were collected.
use Rattle.std.proofs.Common.{◌≡◌, true, ap, sym, ◌∙◌}
use Rattle.ac_noncontiguous.proofs.builder.BuilderLemmas.{some-held}
use Rattle.ac_noncontiguous.proofs.builder.Builder.build_prefilter.Goals as goal

pub returns : goal.returns
returns c =
    let on : c.args.self.now.prefilter ≡ true = sym (ap (λ s. s.prefilter) c.self.view_is) ∙ c.if-not-self.false in
    some-held c.build-2.result c.in_ok-collect.ensures on c.build-2.ensures.made c.build-2.ensures.demanded

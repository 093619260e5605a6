use Rattle.std.proofs.Common.{◌++◌, ◌∷◌, [], sym, subst}
use Rattle.ac_literal.specs.Prefilter.Needles.{AreFew}
use Rattle.ac_literal.specs.Prefilter.Strategies.{is_start}
use Rattle.ac_literal.specs.Prefilter.Rare.{IsRareSoFar}
use Rattle.ac_literal.proofs.prefilter.BuilderLemmas.{collected-push}
use Rattle.ac_literal.proofs.prefilter.builder.Builders.add.Goals as goal

pub returns-clause-ok : goal.returns-clause-ok
returns-clause-ok c =
    λ m e collected.
    let starts = c.starts_with-self.ensures m.patterns
    (subst (λ q. AreFew c.args.self.now.start_bytes (is_start q m.patterns)) e collected.starts) in
    let rare = c.with-self.ensures m.patterns
    (subst (λ q. IsRareSoFar q m.patterns c.args.self.now.rare_bytes) e collected.rare) in
    collected-push c.args.pattern.now
    c.requires collected (c.in_ok-memmem.ensures m.patterns collected.memmem) c.in_ok-add_packed.ensures.ok
    (subst (λ q. AreFew c.starts_with-self.result (is_start q (m.patterns ++ c.args.pattern.now ∷ []))) (sym e) starts)
    (subst (λ q. IsRareSoFar q (m.patterns ++ c.args.pattern.now ∷ []) c.with-self.result) (sym e) rare)

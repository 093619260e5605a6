-- The patterns are added to a fresh builder.
use Rattle.std.proofs.Common.{List, Bor, ℕ, map}
use Rattle.std.proofs.lemmas.Result.{IfOk-weaker}
use Rattle.ac_literal.specs.declared.packed.api.MatchKind.TheVariants.{LeftmostFirst}
use Rattle.ac_literal.proofs.packed.PatternLemmas.{built-fresh}
use Rattle.ac_literal.proofs.packed.api.Searcher.new.Goals as goal

abbrev text_of : Bor (List ℕ) → List ℕ
text_of pattern = pattern.now

pub returns-clause-served : goal.returns-clause-served
returns-clause-served c =
    let texts = map text_of c.args.patterns.now in
    let value = rw (c.in_ok-try_extend.ensures.ok, c.new-builder.ensures) at c.build.ensures.value in
    IfOk-weaker c.build.result _ _ (λ made is. rw is (built-fresh LeftmostFirst texts).0) value

pub returns-clause-value : goal.returns-clause-value
returns-clause-value c =
    let texts = map text_of c.args.patterns.now in
    let value = rw (c.in_ok-try_extend.ensures.ok, c.new-builder.ensures) at c.build.ensures.value in
    IfOk-weaker c.build.result _ _ (λ made is. rw is (built-fresh LeftmostFirst texts).1) value

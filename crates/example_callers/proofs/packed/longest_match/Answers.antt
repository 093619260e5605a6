-- The searcher has the patterns that were added to its builder.
use Rattle.std.proofs.Common.{◌≡◌, Option, map, sym, subst}
use Rattle.std.specs.Prelude.{IfSome}
use Rattle.ac_literal.specs.Packed.{Packed}
use Rattle.ac_literal.specs.declared.packed.api.MatchKind.TheVariants.{LeftmostLongest}
use Rattle.ac_literal.proofs.packed.PatternLemmas.{built-fresh}
use Rattle.example_callers.proofs.packed.PackedLemmas.{packed-first}
use Rattle.example_callers.proofs.packed.longest_match.Goals as goal

pub unwrap-searcher-requires : goal.unwrap-searcher-requires
unwrap-searcher-requires c =
    let texts = map (λ pattern. pattern.now) c.args.patterns.now in
    let value = rw (c.in_ok-try_extend.ensures.ok, c.builder-builder.ensures, c.match_kind.ensures.value) at
    c.in_ok-build.ensures.value in
    rw value ((built-fresh LeftmostLongest texts).0.1 c.requires)

pub returns : goal.returns
returns c =
    let texts = map (λ pattern. pattern.now) c.args.patterns.now in
    let value = rw (c.in_ok-try_extend.ensures.ok, c.builder-builder.ensures, c.match_kind.ensures.value) at
    c.in_ok-build.ensures.value in
    let is = subst (λ made. IfSome made (λ s. s ≡ record { kind = LeftmostLongest; patterns = texts })) (sym value)
    (built-fresh LeftmostLongest texts).1 in
    packed-first LeftmostLongest texts c.args.text.now _ _ _ is c.unwrap-searcher.ensures c.find.ensures.best

-- What is built has the patterns that were added.
use Rattle.std.proofs.Common.{◌≡◌, ap, sym, ◌∙◌, subst}
use Rattle.std.specs.Prelude.{IfSome}
use Rattle.ac_literal.specs.Packed.{AreServed, bytes_of, search_kind}
use Rattle.ac_literal.proofs.packed.PatternLemmas.{built-fresh}
use Rattle.acsub.proofs.prepared.packed_for.Goals as goal

pub unwrap-requires : goal.unwrap-requires
unwrap-requires c =
    let texts = bytes_of c.as_slice.result.now in
    let same = ap bytes_of c.as_slice.ensures.value ∙ c.in_ok-patterns.ensures in
    let value = rw (c.in_ok-try_extend.ensures.ok, c.builder-builder.ensures, c.match_kind.ensures.value) at
    c.in_ok-made.ensures.value in
    rw value ((built-fresh c.packed_kind.result texts).0.1 (subst AreServed (sym same) c.requires.served))

pub returns : goal.returns
returns c =
    let texts = bytes_of c.as_slice.result.now in
    let same = ap bytes_of c.as_slice.ensures.value ∙ c.in_ok-patterns.ensures in
    let value = rw (c.in_ok-try_extend.ensures.ok, c.builder-builder.ensures, c.match_kind.ensures.value) at
    c.in_ok-made.ensures.value in
    let is = subst (λ made. IfSome made (λ s. s ≡ record { kind = c.packed_kind.result; patterns = texts }))
    (sym value ∙ c.unwrap.ensures) (built-fresh c.packed_kind.result texts).1 in
    (ap (λ s. search_kind s.kind) is ∙ c.packed_kind.ensures, ap (λ s. s.patterns) is ∙ same)

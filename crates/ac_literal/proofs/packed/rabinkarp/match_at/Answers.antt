-- The comparison decides whether the pattern lies there.
use Rattle.std.proofs.Common.{◌≡◌, ◌+◌, length, ap, sym, subst, ◌∙◌, arith}
use Rattle.std.specs.Prelude.{slice_range}
use Rattle.std.proofs.lemmas.Bool.{false≢true}
use Rattle.std.proofs.lemmas.Bool.Decides.{Decides-eqb}
use Rattle.std.proofs.lemmas.Slice.Eq.{slice_eq-Decides}
use Rattle.ac_literal.proofs.packed.TextLemmas.{lies, lies-bytes}
use Rattle.ac_literal.proofs.packed.rabinkarp.match_at.Goals as goal

pub returns-then-eq : goal.returns-then-eq
returns-then-eq c =
    let hay = c.args.haystack.now in
    let bytes = c.get-pattern.ensures in
    let equal = (slice_eq-Decides Decides-eqb _ _ _ c.eq.ensures).0 c.if-eq.true in
    let same = subst (λ p. slice_range hay c.args.at (c.args.at + length p) ≡ p) bytes equal in (
      rw bytes at c.new.ensures,
      lies c.requires.start c.requires.number (omega (arith, ap length bytes)) same,
    )

pub returns-else-eq : goal.returns-else-eq
returns-else-eq c = λ h occurs.
    let hay = c.args.haystack.now in
    let there = lies-bytes occurs in
    let same = subst (λ p. slice_range hay c.args.at (c.args.at + length p) ≡ p) (sym c.get-pattern.ensures) there.1 in
    false≢true (sym c.if-eq.false ∙ (slice_eq-Decides Decides-eqb _ _ _ c.eq.ensures).1 same)

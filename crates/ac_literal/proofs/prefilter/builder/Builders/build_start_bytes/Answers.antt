use Rattle.std.proofs.Common.{◌≡◌, sym, ◌∙◌, ap}
use Rattle.ac_literal.specs.Prefilter.Needles.{all_ascii}
use Rattle.ac_literal.proofs.prefilter.BuilderLemmas.{starts-serve, starts-missed}
use Rattle.ac_literal.proofs.prefilter.builder.Builders.build_start_bytes.Goals as goal

pub returns-in_default : goal.returns-in_default
returns-in_default c =
    λ m collected. starts-missed collected (λ needles is. absurd (c.in_default.not-Some needles is))

pub returns-then-is_ascii : goal.returns-then-is_ascii
returns-then-is_ascii c =
    λ m collected. starts-serve collected c.in-Some.is (sym c.if-is_ascii.ensures)

pub returns-else-is_ascii : goal.returns-else-is_ascii
returns-else-is_ascii c =
    λ m collected. starts-missed collected
    (λ needles is. let same : c.in-Some.needles ≡ needles = cc (sym c.in-Some.is ∙ is) in
    ap all_ascii (sym same) ∙ sym c.if-is_ascii.ensures)

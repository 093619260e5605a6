use Rattle.ac_literal.specs.Prefilter.Needles.{with_byte}
use Rattle.ac_literal.specs.Prefilter.Strategies.{is_start}
use Rattle.std.specs.Prelude.{slice_index}
use Rattle.ac_literal.proofs.prefilter.BuilderLemmas.{starts-push}
use Rattle.ac_literal.proofs.prefilter.builder.starts_with.Goals as goal

pub returns : goal.returns
returns c =
    λ patterns before.
    starts-push c.args.pairing.now patterns c.args.pattern.now c.with-2.result c.requires c.other.ensures.value
    (c.with-2.ensures.table (with_byte (is_start c.args.pairing.now patterns) (slice_index c.args.pattern.now 0))
    (c.with.ensures.table (is_start c.args.pairing.now patterns) before))

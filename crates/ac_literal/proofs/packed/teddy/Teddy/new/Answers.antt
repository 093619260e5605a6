-- One more pattern is in its bucket.
use Rattle.std.proofs.Common.{◌≡◌, ap, subst, ◌∙◌}
use Rattle.std.specs.Prelude.{get_or, []}
use Rattle.ac_literal.specs.Packed.Teddy.{HasPattern}
use Rattle.ac_literal.proofs.packed.TeddyLemmas.{has-more, keeps-near}
use Rattle.ac_literal.proofs.packed.teddy.Teddy.new.Goals as goal

pub loop-number-preserved : goal.loop-number-preserved
loop-number-preserved c =
    let patterns = c.args.patterns.now in
    let text : c.get.result.now ≡ get_or patterns c.loop-number.number [] = c.get.ensures
    ∙ ap (λ number. get_or patterns number []) c.must-number.ensures in
    let own = subst (λ p. HasPattern c.add.new.self p c.bucket_of.result) text c.add.ensures.own in
    record {
      near = keeps-near c.add.ensures.kept c.loop-number.invariant.near;
      all = has-more patterns c.loop-number.invariant.all c.add.ensures.kept own;
    }

-- One more pattern has a window in the map.
use Rattle.std.proofs.Common.{◌≡◌, ap, subst, take, ◌∙◌, arith}
use Rattle.std.specs.Prelude.{get_or, []}
use Rattle.ac_literal.specs.Grams.{HasWindow}
use Rattle.ac_literal.proofs.grams.GramLemmas.{windows-more}
use Rattle.ac_literal.proofs.packed.scanner.grams_of.Goals as goal

pub loop-number-preserved : goal.loop-number-preserved
loop-number-preserved c =
    let patterns = c.args.patterns.now in
    let len = c.args.len in
    let text : c.get-pattern.result.now ≡ get_or patterns c.loop-number.number [] = c.get-pattern.ensures
    ∙ ap (λ number. get_or patterns number []) c.must.ensures in
    let own = subst (λ p. HasWindow c.add_rarest.new.self (take len p)) text c.add_rarest.ensures.own in
    let step = c.add_rarest.ensures.kept.step in
    let short = c.loop-number.invariant.short in
    record {
      short = omega (arith, step, short);
      all = windows-more len patterns c.add_rarest.ensures.kept c.loop-number.invariant.all own;
    }

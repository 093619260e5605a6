-- No place that is passed has a mark.
use Rattle.std.proofs.Common.{arith}
use Rattle.std.proofs.lemmas.Grind.{common_steps}
use Rattle.ac_literal.proofs.openings.OpeningLemmas.{block-passed}
use Rattle.ac_literal.proofs.openings.fronts.Fronts.pass.Goals as goal

pub returns-then-place-lt-LANES-clause-passed : goal.returns-then-place-lt-LANES-clause-passed
returns-then-place-lt-LANES-clause-passed c =
    let place = c.first_printed-place in
    block-passed c.next_marks-block.ensures c.loop-at.invariant.passed place.ensures.within c.if-marks-eq0.false
    place.ensures.passed

pub loop-at-preserved : goal.loop-at-preserved
loop-at-preserved c =
    let place = c.first_printed-place in
    let next = c.next_marks-block.ensures in
    let whole = next.whole c.if-marks-eq0.false in
    let all = c.if-place-lt-LANES.false in
    record {
      within = whole;
      passed = block-passed next c.loop-at.invariant.passed (omega arith) c.if-marks-eq0.false
          (λ k within. place.ensures.passed k (omega (arith, within, all)));
    }

pub returns-clause-within : goal.returns-clause-within
returns-clause-within c = grind (arith, common_steps)

use Rattle.std.proofs.Common.{arith}
use Rattle.test_plain.specs.Naive.{PlainStartsAt}
use Rattle.test_plain.proofs.plain.Occurrences.{pattern_within}
use Rattle.test_plain.proofs.plain.Least.{least_step, least_done}
use Rattle.test_plain.proofs.plain.Naive.best_starting_at.Goals as goal

pub loop-number-preserved : goal.loop-number-preserved
loop-number-preserved c =
    rw c.better-best.ensures
    (least_step _ (PlainStartsAt c.args.self.now c.args.at) _ _ _ c.loop-number.invariant c.pattern_starting_at.ensures)

pub returns : goal.returns
returns c =
    least_done _ (PlainStartsAt c.args.self.now c.args.at) c.loop-number.number _
    (λ o h. omega (arith, pattern_within c.args.self.now o h.0)) c.loop-number.invariant

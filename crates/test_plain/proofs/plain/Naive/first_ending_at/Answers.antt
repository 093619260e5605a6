use Rattle.std.proofs.Common.{arith}
use Rattle.ac_input.specs.declared.search.MatchKind.TheVariants.{Standard}
use Rattle.test_plain.specs.Naive.{EndsAfter}
use Rattle.test_plain.proofs.plain.Occurrences.{pattern_within}
use Rattle.test_plain.proofs.plain.Least.{least_step, least_done}
use Rattle.test_plain.proofs.plain.Naive.first_ending_at.Goals as goal

pub loop-number-preserved : goal.loop-number-preserved
loop-number-preserved c =
    rw c.better-first.ensures
    (least_step Standard (EndsAfter c.args.self.now c.args.end c.args.before.now) _ _ _ c.loop-number.invariant
    c.later_ending_at.ensures)

pub returns : goal.returns
returns c =
    least_done Standard (EndsAfter c.args.self.now c.args.end c.args.before.now) c.loop-number.number _
    (λ o h. omega (arith, pattern_within c.args.self.now o h.0.0)) c.loop-number.invariant

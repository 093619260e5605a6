use Rattle.std.proofs.Common.{refl, ap, arith}
use Rattle.test_plain.proofs.plain.Occurrences.{pattern_within}
use Rattle.test_plain.proofs.plain.Places.{alike_more, alike_least}
use Rattle.test_plain.proofs.plain.Naive.next_alike.Goals as goal

pub returns-then-occurs : goal.returns-then-occurs
returns-then-occurs c =
    let number_is = ap (λ o. o.pattern) c.before-2.view_is in
    alike_least c.args.self.now c.args.before c.loop-number.number _ _ (ap (λ o. o.start) c.before-2.view_is)
    (ap (λ o. o.end) c.before-2.view_is) (c.if-occurs.ensures.0 refl) (omega arith) c.loop-number.invariant

pub loop-number-preserved : goal.loop-number-preserved
loop-number-preserved c = λ o h.
    alike_more c.args.self.now c.args.before c.loop-number.number _ _ (ap (λ q. q.start) c.before-2.view_is)
    (ap (λ q. q.end) c.before-2.view_is) (λ p. let e = c.if-occurs.ensures.1 p in cc) o h (c.loop-number.invariant o h)

pub returns : goal.returns
returns c = λ o h. let within = pattern_within c.args.self.now o h.0 in let from = c.loop-number.invariant o h in
    omega arith

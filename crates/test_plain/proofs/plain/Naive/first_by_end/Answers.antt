use Rattle.test_plain.proofs.plain.Occurrences.{within}
use Rattle.std.proofs.Common.{ap, arith}
use Rattle.test_plain.proofs.plain.Naive.first_by_end.Goals as goal

pub returns : goal.returns
returns c =
    let end = ap (λ t. t.search.end) c.self.view_is in
    λ o h. let w = within c.args.self.now o h.0 in let from = c.loop-end.invariant o h in omega arith

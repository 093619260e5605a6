use Rattle.test_plain.proofs.plain.Occurrences.{within}
use Rattle.std.proofs.Common.{◌≡◌, true, ap, arith}
use Rattle.std.specs.Prelude.{is_some}
use Rattle.test_plain.proofs.plain.Places.{best_at_start}
use Rattle.test_plain.proofs.plain.Naive.best_by_start.Goals as goal

pub returns-then-is_some : goal.returns-then-is_some
returns-then-is_some c =
    let some : is_some c.best_starting_at-best.result ≡ true = cc in
    best_at_start _ c.args.self.now _ _ c.requires some c.loop-at.invariant c.best_starting_at-best.ensures

pub loop-at-init : goal.loop-at-init
loop-at-init c =
    let start = ap (λ t. t.search.start) c.self.view_is in
    λ o h. let w = within c.args.self.now o h in omega arith

pub returns : goal.returns
returns c =
    let end = ap (λ t. t.search.end) c.self.view_is in
    λ o h. let w = within c.args.self.now o h in let from = c.loop-at.invariant o h in omega arith

use Rattle.std.proofs.Common.{◌≡◌, subst}
use Rattle.test_plain.specs.Naive.{PlainOccurs}
use Rattle.test_plain.proofs.plain.Ranks.{ranks_fall}
use Rattle.test_plain.proofs.plain.Lists.{lists_more}
use Rattle.test_plain.proofs.plain.Naive.listing.Goals as goal

pub loop-next-smaller : goal.loop-next-smaller
loop-next-smaller c =
    ranks_fall c.args.self.now c.loop-next.before c.in-Some.next c.loop-next.invariant.placed c.in-Some.ensures

pub loop-next-preserved : goal.loop-next-preserved
loop-next-preserved c =
    rw c.in_ok-push.ensures.items (record {
      lists = lists_more c.args.self.now c.loop-next.before c.loop-next.found.items c.in-Some.next c.in-Some.ensures
          c.loop-next.invariant.lists;
      placed = λ b e. let same : c.in-Some.next ≡ b = cc in subst (PlainOccurs c.args.self.now) same c.in-Some.ensures.0.0;
    })

pub returns : goal.returns
returns c =
    let lists = c.loop-next.invariant.lists in
    (lists.0, λ o. (λ h. ((lists.1 o).0 h).0, λ h. (lists.1 o).1 (h, λ after. c.in_default.ensures o (h, after))))

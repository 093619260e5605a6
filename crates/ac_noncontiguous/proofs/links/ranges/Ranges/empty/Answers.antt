-- Each state has the first range, which is empty.
use Rattle.std.proofs.Common.{arith, rules}
use Rattle.ac_noncontiguous.proofs.links.RangesLemmas.{ranges-empty}
use Rattle.ac_noncontiguous.proofs.links.ranges.Ranges.empty.Goals as goal

pub returns : goal.returns
returns c = record {
  empty = ranges-empty c.args.states (c.in_ok-at.ensures.items_if_clones_equal (λ y same. search rules))
      (c.in_ok-each.ensures.items_if_clones_equal (λ y same. search rules));
  one = omega (arith, c.in_ok-each.ensures.len);
}

-- The ranges before the new one stay where they are.
use Rattle.std.proofs.Common.{ap, arith, ◌∷◌, [], length, length-append}
use Rattle.ac_noncontiguous.proofs.links.RangesLemmas.{ranges-added, ranges-last}
use Rattle.ac_noncontiguous.proofs.links.ranges.Ranges.add.Goals as goal

pub returns : goal.returns
returns c =
    let old = c.args.self.now in
    let range = c.args.range in
    let pushed = c.in_ok-push.ensures.items in
    let longer = length-append old.each.items (range ∷ []) in
    record {
      same = ranges-added old range pushed;
      more = omega (arith, ap length pushed, longer);
      added = (
        omega (arith, ap length pushed, longer, c.len-number.ensures),
        ranges-last old range pushed (omega (arith, c.len-number.ensures)),
      );
    }

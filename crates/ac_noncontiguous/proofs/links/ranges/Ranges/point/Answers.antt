-- The state's range is that of its number.
use Rattle.std.proofs.Common.{refl, ap, ◌∙◌, slice_set}
use Rattle.std.proofs.lemmas.List.{map-set}
use Rattle.ac_noncontiguous.specs.Links.{by_state}
use Rattle.ac_noncontiguous.specs.Links.Stored.{range_at}
use Rattle.ac_noncontiguous.proofs.links.ranges.Ranges.point.Goals as goal

pub returns : goal.returns
returns c =
    let old = c.args.self.now in
    let number = c.args.number in
    record {
      set = map-set (range_at old) old.at.items c.as_usize.result number
          ∙ ap (λ i. slice_set (by_state old) i (range_at old number)) c.as_usize.ensures.value;
      same = refl;
    }

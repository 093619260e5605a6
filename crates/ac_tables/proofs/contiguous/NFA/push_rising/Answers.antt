-- Each place that was found is near.
use Rattle.std.proofs.Common.{◌<◌, length, sym, subst, arith}
use Rattle.std.proofs.lemmas.List.{get_or_read}
use Rattle.ac_tables.specs.Contiguous.NearReads.{near_depth, IsMetWithin}
use Rattle.ac_tables.proofs.contiguous.NFA.push_rising.Goals as goal

pub push_next-requires-clause-met : goal.push_next-requires-clause-met
push_next-requires-clause-met c = λ some.
    let below : c.loop-place.place-index < length c.args.found.now = omega arith in
    let read = get_or_read c.args.found.now _ _ below c.place-item.is 0 in
    subst (IsMetWithin c.args.self.now near_depth) (sym read) (c.requires.found.near c.loop-place.place-index 0 below)

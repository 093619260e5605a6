use Rattle.std.proofs.Common.{◌<◌, length, arith}
use Rattle.std.proofs.lemmas.List.{get_or_read}
use Rattle.ac_noncontiguous.proofs.compiler.numbering.push_chosen.Goals as goal

pub is_chosen-requires : goal.is_chosen-requires
is_chosen-requires c =
    let below : c.loop-id.id-index < length c.args.states.now = omega arith in
    omega (arith, get_or_read c.args.states.now _ _ below c.id-item.is 0, c.requires c.loop-id.id-index below)

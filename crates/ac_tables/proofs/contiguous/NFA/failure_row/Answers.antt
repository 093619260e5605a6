use Rattle.std.proofs.Common.{false, sym, subst}
use Rattle.std.proofs.lemmas.List.{get_or_read}
use Rattle.ac_tables.specs.Contiguous.Reads.{IsMet}
use Rattle.ac_tables.proofs.contiguous.NFA.failure_row.Goals as goal

pub fail-fail-requires : goal.fail-fail-requires
fail-fail-requires c =
    let read = get_or_read c.args.near.now.places.items c.args.row c.index-place.result.now c.requires.0
    c.index-place.ensures 0 in
    subst (IsMet c.args.self.now false) (sym read) c.requires.1

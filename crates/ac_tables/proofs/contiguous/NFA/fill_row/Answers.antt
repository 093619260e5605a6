-- The state that is asked for its transitions is met.
use Rattle.std.proofs.Common.{false, sym, subst}
use Rattle.std.proofs.lemmas.List.{get_or_read}
use Rattle.ac_tables.specs.Contiguous.Reads.{IsMet}
use Rattle.ac_tables.specs.Contiguous.WordReads.{ListsEdges}
use Rattle.ac_tables.proofs.contiguous.FollowLemmas.{met-place}
use Rattle.ac_tables.proofs.contiguous.NFA.fill_row.Goals as goal

pub edge_len-requires : goal.edge_len-requires
edge_len-requires c =
    let read = get_or_read c.args.near.now.places.items c.args.row c.index-place.result.now c.requires.met.0
    c.index-place.ensures 0 in
    met-place c.args.self.now false c.index-place.result.now
    (subst (IsMet c.args.self.now false) (sym read) c.requires.met.1)

pub fill_listed-requires-clause-listed : goal.fill_listed-requires-clause-listed
fill_listed-requires-clause-listed c =
    let read = get_or_read c.args.near.now.places.items c.args.row c.index-place.result.now c.requires.met.0
    c.index-place.ensures 0 in
    subst (λ p. ListsEdges c.args.self.now.table p c.in-Some-edge_len.len) read c.in-Some-edge_len.ensures

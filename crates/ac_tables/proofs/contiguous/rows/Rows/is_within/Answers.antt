use Rattle.std.proofs.Common.{◌-◌, sym, arith}
use Rattle.std.proofs.lemmas.List.{get_or_read}
use Rattle.ac_tables.proofs.contiguous.CutLemmas.{within-last}
use Rattle.ac_tables.proofs.contiguous.rows.Rows.is_within.Goals as goal

pub returns : goal.returns
returns c =
    let rows = c.args.self.now in
    let read = get_or_read rows.places.items (c.args.end - 1) c.index.result.now
    (omega (arith, c.requires.some, c.requires.within)) c.index.ensures 0 in
    within-last rows.places.items c.args.to.last c.args.end c.index.result.now c.is_before.result rows.rise
    c.requires.some c.requires.within (sym read) c.is_before.ensures

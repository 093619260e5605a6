use Rattle.std.proofs.Common.{sym, arith}
use Rattle.std.proofs.lemmas.List.{get_or_read}
use Rattle.ac_tables.proofs.contiguous.CutLemmas.{past-first}
use Rattle.ac_tables.proofs.contiguous.rows.Rows.is_past.Goals as goal

pub returns : goal.returns
returns c =
    let rows = c.args.self.now in
    let len = c.len.ensures in
    let other = c.if-end-len.false in
    let read = get_or_read rows.places.items c.args.end c.index.result.now (omega (arith, len, other, c.requires))
    c.index.ensures 0 in
    past-first rows.places.items c.args.to.last c.args.end c.index.result.now c.is_before.result rows.rise
    (omega (arith, len, other, c.requires)) (sym read) c.is_before.ensures

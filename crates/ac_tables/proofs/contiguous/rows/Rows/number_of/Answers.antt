-- The number is that of the row, or of the place alone.
use Rattle.std.proofs.Common.{arith}
use Rattle.ac_tables.proofs.contiguous.NearLemmas.{row-numbered, far-numbered}
use Rattle.ac_tables.proofs.contiguous.rows.Rows.number_of.Goals as goal

pub returns-in-Some : goal.returns-in-Some
returns-in-Some c = row-numbered c.args.self.now c.in-Some.row c.args.place c.in-Some.ensures.0 c.in-Some.ensures.1

pub returns-in-None : goal.returns-in-None
returns-in-None c =
    let m = c.must.ensures in
    let l = c.len.ensures in
    let a = c.as_usize.ensures.value in
    far-numbered c.args.self.now c.args.place c.must.result (omega (arith, m, l, a))

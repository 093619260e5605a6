-- The number is that of the state to which the look-up leads.
use Rattle.std.proofs.Common.{arith}
use Rattle.ac_tables.proofs.contiguous.NearLemmas.{met-within}
use Rattle.ac_tables.proofs.contiguous.NearFillLemmas.{met-next, number-leads}
use Rattle.ac_tables.proofs.contiguous.NFA.number_after.Goals as goal

pub number_of-requires : goal.number_of-requires
number_of-requires c =
    let a = c.args.self.now in
    let within = met-within a c.next-next.result
    (met-next a c.args.place c.args.byte c.next-next.result _ _ c.requires.met c.next-next.ensures) in
    omega (arith, within, c.requires.room)

pub returns : goal.returns
returns c =
    number-leads c.args.self.now c.args.near.now c.args.place c.args.byte c.next-next.result c.number_of.result _ _
    c.requires.alone c.next-next.ensures c.number_of.ensures

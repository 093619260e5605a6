-- Each class that is listed has a byte.
use Rattle.std.proofs.Common.{arith}
use Rattle.ac_tables.proofs.contiguous.NFA.push_listed.Goals as goal

pub edge_class-class-requires : goal.edge_class-class-requires
edge_class-class-requires c = c.requires.listed.there c.loop-at.at c.loop-at-test.true

pub bounds-bytes-class : goal.bounds-bytes-class
bounds-bytes-class c =
    let fits = c.requires.listed.classes c.loop-at.at c.loop-at-test.true in
    let counted = c.requires.bytes.counted in
    let is = c.edge_class-class.ensures in
    omega (arith, is, fits, counted)

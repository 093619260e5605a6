-- One row after another is filled.
use Rattle.std.proofs.Common.{ℕ, ◌<◌, false, List, length, slice_index, sym, subst, arith}
use Rattle.ac_tables.specs.Contiguous.Reads.{IsMet}
use Rattle.ac_tables.proofs.contiguous.NearFillLemmas.{rows-none, rows-more, rows-kept}
use Rattle.ac_tables.proofs.contiguous.NFA.fill.Goals as goal

pub loop-row-init : goal.loop-row-init
loop-row-init c = rows-none c.args.self.now c.args.bytes.now c.args.near.now

pub fill_row-requires-clause-met : goal.fill_row-requires-clause-met
fill_row-requires-clause-met c =
    let row = c.loop-row.row in
    let end = c.len-row-end.ensures in
    let test = c.loop-row-test.true in
    let less : row < length c.args.near.now.places.items = omega (arith, end, test) in
    subst (λ (ps : List ℕ). (row < length ps) × IsMet c.args.self.now false (slice_index ps row))
    (sym c.loop-row.invariant.places) (less, c.requires.met row less)

pub fill_row-requires-clause-before : goal.fill_row-requires-clause-before
fill_row-requires-clause-before c =
    rows-kept c.args.self.now c.args.bytes.now c.loop-row.row c.args.near.now c.loop-row.near c.loop-row.invariant

pub loop-row-preserved : goal.loop-row-preserved
loop-row-preserved c =
    rows-more c.args.self.now c.args.bytes.now c.loop-row.row c.args.near.now c.loop-row.near c.fill_row.new.near
    c.requires.letters c.loop-row.invariant c.fill_row.ensures

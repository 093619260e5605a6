use Rattle.std.proofs.Common.{◌≢◌, ◌+◌, ap, ap₂, sym, ◌∙◌, arith}
use Rattle.std.specs.Prelude.{slice_index}
use Rattle.ac_noncontiguous.specs.Nfa.{row_of, no_row}
use Rattle.ac_noncontiguous.proofs.nfa.LookupLemmas.{read-at, kept-within, kept-read, kept-row, leads-row}
use Rattle.ac_noncontiguous.proofs.nfa.tables.Tables.step_by_row.Goals as goal

pub index-requires : goal.index-requires
index-requires c = let k = kept-within c.requires in let e = c.as_usize.ensures.value in omega arith

pub index-requires-2 : goal.index-requires-2
index-requires-2 c =
    let row = ap (λ s. s.row) (kept-read c.requires c.as_usize.ensures.value c.index.ensures) in
    let some : row_of c.args.self.now.states.items c.args.sid ≢ no_row = λ e. c.if-row.false (sym row ∙ e) in
    let within = kept-row c.requires c.ranges.byte.fits some in
    let at = c.get.ensures.value in
    omega (arith, row, at, within)

pub returns : goal.returns
returns c =
    let row = ap (λ s. s.row) (kept-read c.requires c.as_usize.ensures.value c.index.ensures) in
    let some : row_of c.args.self.now.states.items c.args.sid ≢ no_row = λ e. c.if-row.false (sym row ∙ e) in
    let within = kept-row c.requires c.ranges.byte.fits some in
    let at = c.get.ensures.value in
    let place = ap₂ (λ a b. a + b) row (sym at) in
    leads-row c.ranges.byte.fits some
    (ap (slice_index c.args.self.now.rows.items) place
    ∙ read-at c.args.self.now.rows.items 0 (omega (arith, row, at, within)) c.index-2.ensures)

-- The row found is that of the place.
use Rattle.std.proofs.Common.{◌*◌, length, ap, sym, ◌∙◌, arith}
use Rattle.std.specs.Prelude.{slice_index}
use Rattle.std.proofs.lemmas.Nat.{pow_pos}
use Rattle.ac_tables.specs.Contiguous.Rows.{row_len}
use Rattle.ac_tables.proofs.contiguous.CutLemmas.{row-at}
use Rattle.ac_tables.proofs.contiguous.rows.Rows.row_at.Goals as goal

pub returns : goal.returns
returns c =
    let rows = c.args.self.now in
    let found = c.in_ok-found.ensures.lookup.3 in
    let all = ap length c.deref.ensures.value in
    let inside = found.0 in
    row-at rows.places.items (row_len rows) c.args.row c.must.result c.in_ok-found.field-0.now c.args.place c.ne.result
    (pow_pos rows.stride2) (omega (arith, inside, all))
    (sym (found.1 0 ∙ ap (λ places. slice_index places c.args.row) c.deref.ensures.value))
    (c.must.ensures ∙ ap (λ n. c.args.row * n) c.stride.ensures) c.ne.ensures c.if-ne.false

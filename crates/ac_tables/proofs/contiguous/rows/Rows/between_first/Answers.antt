use Rattle.std.proofs.Common.{◌-◌, ◌*◌, ap, ◌∙◌}
use Rattle.std.proofs.lemmas.Nat.{pow_pos}
use Rattle.ac_tables.specs.Contiguous.Rows.{row_len}
use Rattle.ac_tables.proofs.contiguous.CutLemmas.{rows-between}
use Rattle.ac_tables.proofs.contiguous.rows.Rows.between_first.Goals as goal

pub returns : goal.returns
returns c = λ row one.
    let rows = c.args.self.now in
    rows-between rows.places.items (row_len rows) c.args.to c.new.result c.in_ok-first.first c.args.end row
    (pow_pos rows.stride2) c.in_ok-first.ensures c.requires.end c.requires.some
    (c.new.ensures.first ∙ ap (λ n. c.in_ok-first.first * n) c.stride-2.ensures)
    (c.new.ensures.last ∙ (c.must-last.ensures ∙ ap (λ n. (c.args.end - 1) * n) c.stride.ensures))
    one

use Rattle.std.proofs.Common.{◌+◌, ◌-◌, ◌*◌, ap, subst, ◌∙◌}
use Rattle.std.proofs.lemmas.Nat.{pow_pos}
use Rattle.ac_tables.specs.Contiguous.Cut.{IsCountBelow}
use Rattle.ac_tables.proofs.contiguous.NoteRowLemmas.{last-up-to}
use Rattle.ac_tables.proofs.contiguous.rows.Rows.last_up_to.Goals as goal

pub returns : goal.returns
returns c =
    let rows = c.args.self.now in
    let end = c.in_ok-end.end in
    last-up-to rows c.args.sid end _ (pow_pos rows.stride2) c.in_ok-end.ensures.0
    (subst (λ n. IsCountBelow rows.places.items (n + 1) end) c.new.ensures.last c.in_ok-end.ensures.1)
    (c.must.ensures ∙ ap (λ n. end * n - 1) c.stride.ensures)

-- The table names the partner of each byte.
use Rattle.std.proofs.Common.{arith, ap, sym, ◌∙◌}
use Rattle.std.proofs.lemmas.List.{get_or_default}
use Rattle.ac_input.specs.Same.{other}
use Rattle.ac_input.proofs.lemmas.SameLemmas.{other-named, own-inverse}
use Rattle.ac_input.proofs.pairing.Pairing.other.Goals as goal

pub returns-clause-value : goal.returns-clause-value
returns-clause-value c =
    let table = c.self.inside.table in
    rw (← c.self.view_is)
    (get_or_default table c.args.byte 0 c.args.byte (omega (arith, c.self.invariant.len))
    ∙ sym (other-named table c.self.invariant c.args.byte))

pub returns-clause-inverse : goal.returns-clause-inverse
returns-clause-inverse c =
    let table = c.self.inside.table in
    let named = get_or_default table c.args.byte 0 c.args.byte (omega (arith, c.self.invariant.len))
    ∙ sym (other-named table c.self.invariant c.args.byte) in
    rw (← c.self.view_is) (ap (other table) named ∙ own-inverse table c.args.byte)

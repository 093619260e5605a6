-- Each number is put at its place.
use Rattle.std.proofs.Common.{◌≡◌, length, subst, arith}
use Rattle.ac_literal.specs.Packed.RabinKarp.{IsOrder}
use Rattle.ac_literal.proofs.packed.PreferenceLemmas.{IsOrder-more}
use Rattle.ac_literal.proofs.packed.pattern.Patterns.order.Goals as goal

pub loop-number-preserved : goal.loop-number-preserved
loop-number-preserved c =
    let there = rw (c.deref.ensures.value, c.must-number.ensures) at c.place_of-place.ensures in
    rw (c.in_ok-insert.ensures.items, c.must-number.ensures)
    (IsOrder-more c.args.kind c.args.self.now c.loop-number.number c.loop-number.order.items c.place_of-place.result
    c.loop-number.invariant there)

pub returns : goal.returns
returns c =
    let e : c.loop-number.number ≡ length c.args.self.now = omega arith in
    subst (λ n. IsOrder c.args.kind c.args.self.now n c.loop-number.order.items) e c.loop-number.invariant

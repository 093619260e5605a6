-- The mask has each bit from the place on.
use Rattle.std.proofs.Common.{◌≡◌, ◌*◌, ◌-◌, ◌%◌, ◌^◌, ◌<◌, min, ap, ◌∙◌, arith}
use Rattle.std.proofs.Math.Nat.{min-eq_left}
use Rattle.std.proofs.lemmas.Nat.{pow_below}
use Rattle.std.proofs.lemmas.Nat.Bits.{bit_at-lt, bit_at_and, bit_at_mask_inside}
use Rattle.std.specs.Int.{bit_at}
use Rattle.std.specs.Prelude.{bit_and}
use Rattle.ac_literal.proofs.packed.teddy.from_place.Goals as goal

pub returns-clause-kept : goal.returns-clause-kept
returns-clause-kept c k from within =
    let marks = c.args.marks in
    let place = c.args.place in
    let small : 2 ^ place < 18446744073709551616 = pow_below place 64 (let h = c.requires.within in omega (arith, h)) in
    let one : 1 * 2 ^ place % 18446744073709551616 ≡ 2 ^ place = omega (arith, small) in
    let mask : bit_at (4294967296 - 2 ^ place) k ≡ 1 = bit_at_mask_inside place 32 k from within in
    let bit = bit_at-lt marks k in
    ap (λ x. bit_at (bit_and marks (4294967296 - x)) k) one ∙ bit_at_and marks (4294967296 - 2 ^ place) k
    ∙ ap (min (bit_at marks k)) mask ∙ min-eq_left (omega (arith, bit))

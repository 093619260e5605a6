use Rattle.std.proofs.Common.{◌≡◌, ℕ, ◌%◌, List, length, get_or, replicate, ◌∙◌, arith, bit_and}
use Rattle.std.specs.Simd.Lanes.{zip2}
use Rattle.std.proofs.lemmas.Nat.{and_mask}
use Rattle.ac_literal.specs.Packed.Teddy.{HasLanes}
use Rattle.ac_literal.proofs.packed.LaneLemmas.{lanes-one, may-look, lanes-looked}
use Rattle.ac_literal.proofs.packed.teddy.at_low.Goals as goal

-- a byte's low half is its remainder by 16
low_halves : (v : List ℕ) → length v ≡ 32 → HasLanes (zip2 bit_and v (replicate 32 15)) (λ k. get_or v k 0 % 16)
low_halves v long =
    let masked = lanes-one bit_and v 15 long in
    record { long = masked.long; each = λ k within. masked.each k within ∙ and_mask (get_or v k 0) 4 }

pub swizzle : goal.swizzle
swizzle c = may-look (low_halves c.args.lanes c.fits-lanes.0) (λ k within. omega arith)

pub returns : goal.returns
returns c =
    lanes-looked (low_halves c.args.lanes c.fits-lanes.0) (λ k within. omega arith) _ c.args.table.now c.twice.ensures

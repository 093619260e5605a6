use Rattle.std.proofs.Common.{◌≡◌, ℕ, ◌/◌, ◌^◌, ◌<◌, List, length, get_or, arith, w8, Fits}
use Rattle.std.specs.Simd.Lanes.{Each1}
use Rattle.std.proofs.lemmas.Simd.{Each1-get_or}
use Rattle.ac_literal.proofs.packed.LaneLemmas.{lanes-one, may-look, lanes-looked}
use Rattle.ac_literal.proofs.packed.teddy.at_high.Goals as goal

-- a byte's high half is below 16
high_halves : (v : List ℕ) → length v ≡ 32 → Each1 (Fits w8) v → (k : ℕ) → k < 32 → get_or v k 0 / 16 < 16
high_halves v long fits k within = omega (arith, (Each1-get_or (Fits w8) v k 0 (omega arith) fits).fits)

pub swizzle : goal.swizzle
swizzle c =
    may-look (lanes-one (λ a b. a / 2 ^ b) c.args.lanes 4 c.fits-lanes.0)
    (high_halves c.args.lanes c.fits-lanes.0 c.fits-lanes.1)

pub returns : goal.returns
returns c =
    lanes-looked (lanes-one (λ a b. a / 2 ^ b) c.args.lanes 4 c.fits-lanes.0)
    (high_halves c.args.lanes c.fits-lanes.0 c.fits-lanes.1) _ c.args.table.now c.twice.ensures

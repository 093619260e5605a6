use Rattle.std.proofs.Common.{arith, w64}
use Rattle.ac_literal.proofs.packed.BucketLemmas.{lowest-few}
use Rattle.std.proofs.lemmas.Nat.Bits.{bit_at-trailing_zeros}
use Rattle.ac_literal.proofs.packed.teddy.lowest.Goals as goal

pub returns : goal.returns
returns c =
    let bit = bit_at-trailing_zeros w64 c.args.marks (omega (arith, c.requires.some)) c.ranges.marks.fits in
    record { within = lowest-few c.requires.few bit.1; set = bit.1; below = bit.2 }

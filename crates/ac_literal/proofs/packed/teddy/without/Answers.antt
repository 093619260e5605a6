use Rattle.std.proofs.Common.{arith, w64}
use Rattle.std.proofs.lemmas.Nat.Bits.{bit_at_clear_other}
use Rattle.ac_literal.proofs.packed.BucketLemmas.{without-less}
use Rattle.ac_literal.proofs.packed.teddy.without.Goals as goal

pub returns-clause-kept : goal.returns-clause-kept
returns-clause-kept c k within apart =
    bit_at_clear_other w64 c.args.marks c.args.place (omega arith) k (omega arith) apart

pub returns-clause-less : goal.returns-clause-less
returns-clause-less c = without-less c.ranges.marks.fits (omega arith) c.requires.set

-- The bit of the fingerprint is set, and the others stay.
use Rattle.std.proofs.Common.{◌≡◌, ◌/◌, ◌%◌, refl, subst, arith, get_or}
use Rattle.std.specs.Int.{bit_at}
use Rattle.ac_literal.specs.Openings.Fingerprints.{print_of}
use Rattle.ac_literal.proofs.packed.BucketLemmas.{with_bucket}
use Rattle.ac_literal.proofs.openings.FingerprintLemmas.{added-own, added-kept}
use Rattle.ac_literal.proofs.openings.fingerprints.Fingerprints.add.Goals as goal

pub returns-clause-own : goal.returns-clause-own
returns-clause-own c =
    let bits = c.args.self.now.bits in
    let print = c.print_of-print.result in
    let fits = c.print_of-print.ensures.fits in
    subst (λ k. bit_at (get_or (with_bucket bits (print / 8) (print % 8)) (k / 8) 0) (k % 8) ≡ 1)
    c.print_of-print.ensures.value (added-own bits print (omega (arith, fits)))

pub returns-clause-kept : goal.returns-clause-kept
returns-clause-kept c =
    let fits = c.print_of-print.ensures.fits in
    record {
      pairing = refl;
      has = λ bytes had. added-kept c.args.self.now.bits c.print_of-print.result
          (print_of c.args.self.now.pairing bytes) (omega (arith, fits)) had;
    }

-- The bit of the gram's number is set, and the others stay.
use Rattle.std.proofs.Common.{◌≡◌, ◌*◌, ◌/◌, ◌%◌, ◌^◌, length, refl, sym, subst, ◌∙◌, arith, get_or, set}
use Rattle.std.specs.Int.{bit_at}
use Rattle.std.specs.Prelude.{bit_or}
use Rattle.std.proofs.lemmas.List.{get_or_default}
use Rattle.ac_literal.specs.Grams.Numbers.{gram_number}
use Rattle.ac_literal.proofs.packed.BucketLemmas.{with_bucket}
use Rattle.ac_literal.proofs.openings.FingerprintLemmas.{added-own, added-kept}
use Rattle.ac_literal.proofs.grams.Grams.add.Goals as goal

pub returns-clause-own : goal.returns-clause-own
returns-clause-own c =
    let bits = c.args.self.now.bits.items in
    let number = c.number_at-number.result in
    let fits = c.number_at-number.ensures.fits in
    let full : length bits ≡ 8192 = c.args.self.now.full in
    let old : c.index_mut.result.now ≡ get_or bits (number / 8) 0 =
    c.index_mut.ensures.value ∙ get_or_default bits (number / 8) _ 0 (omega (arith, fits, full)) in
    subst
    (λ v. bit_at (get_or (set bits (number / 8) (bit_or v (1 * 2 ^ (number % 8) % 256)))
    (gram_number c.args.pattern.now c.args.at / 8) 0) (gram_number c.args.pattern.now c.args.at % 8) ≡ 1)
    (sym old)
    (subst (λ k. bit_at (get_or (with_bucket bits (number / 8) (number % 8)) (k / 8) 0) (k % 8) ≡ 1)
    c.number_at-number.ensures.value (added-own bits number (omega (arith, fits, full))))

pub returns-clause-kept : goal.returns-clause-kept
returns-clause-kept c =
    let bits = c.args.self.now.bits.items in
    let number = c.number_at-number.result in
    let fits = c.number_at-number.ensures.fits in
    let full : length bits ≡ 8192 = c.args.self.now.full in
    let old : c.index_mut.result.now ≡ get_or bits (number / 8) 0 =
    c.index_mut.ensures.value ∙ get_or_default bits (number / 8) _ 0 (omega (arith, fits, full)) in
    record {
      step = refl;
      most = omega arith;
      has = λ text at had.
          subst
          (λ v. bit_at (get_or (set bits (number / 8) (bit_or v (1 * 2 ^ (number % 8) % 256)))
          (gram_number text at / 8) 0) (gram_number text at % 8) ≡ 1)
          (sym old) (added-kept bits number (gram_number text at) (omega (arith, fits, full)) had);
    }

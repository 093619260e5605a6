-- The byte's two halves select the entries of the tables that get the bucket.
use Rattle.std.proofs.Common.{get_or, refl, arith}
use Rattle.std.proofs.lemmas.Nat.{and_mask}
use Rattle.ac_literal.proofs.packed.BucketLemmas.{probe-own, probe-kept}
use Rattle.ac_literal.proofs.packed.teddy.Probe.add.Goals as goal

pub returns-clause-own : goal.returns-clause-own
returns-clause-own c =
    let byte = get_or c.args.pattern.now c.args.self.now.offset 0 in
    let fits = (c.type_inv.pattern c.args.self.now.offset).fits in
    probe-own c.args.self.now byte _ _ c.args.bucket (omega arith) (omega arith) (and_mask byte 4) refl
    (omega (arith, fits)) c.requires.bucket

pub returns-clause-kept : goal.returns-clause-kept
returns-clause-kept c =
    let byte = get_or c.args.pattern.now c.args.self.now.offset 0 in
    let fits = (c.type_inv.pattern c.args.self.now.offset).fits in
    probe-kept c.args.self.now byte _ _ c.args.bucket (omega arith) (omega arith) (and_mask byte 4) refl
    (omega (arith, fits))

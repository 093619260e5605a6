-- The bytes of the next pair are still their own partners.
use Rattle.std.proofs.Common.{arith, ◌∙◌}
use Rattle.ac_input.proofs.pairing.PairingLemmas.{IsPairing-more, partner-more, partner-alone, last_apart}
use Rattle.ac_input.proofs.pairing.table_of.Goals as goal

pub loop-a-preserved : goal.loop-a-preserved
loop-a-preserved c =
    let pairs = c.args.pairs.now in let i = c.loop-a.a-index in
    let before = c.loop-a.invariant in
    let apart = last_apart pairs i (omega arith) c.requires in
    record {
      pairing = IsPairing-more before.pairing (omega arith) (omega arith) (before.partners _ ∙ partner-alone _ apart.0)
          (before.partners _ ∙ partner-alone _ apart.1) apart.2;
      partners = λ b. partner-more c.loop-a.table pairs i b (omega arith) c.requires (omega (arith, before.pairing.len))
          (omega (arith, before.pairing.len)) before.partners;
    }

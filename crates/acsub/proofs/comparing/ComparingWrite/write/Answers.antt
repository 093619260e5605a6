-- The bytes that were read are those that were taken.
use Rattle.std.proofs.Common.{take}
use Rattle.acsub.proofs.comparing.CompareLemmas.{alike-more}
use Rattle.acsub.proofs.comparing.ComparingWrite.write.Goals as goal

pub invariant_of-self-in-Some : goal.invariant_of-self-in-Some
invariant_of-self-in-Some g c = record {
  alike = λ same.
      let self = c.args.self.now in
      let more = alike-more self.file c.read_alike.new.file self.compared.bytes (take c.in-Some.n c.args.buf.now) (self.alike same)
      c.in-Some.ensures.pieces c.in-Some.ensures.fine in
      rw c.and-self.ensures more;
}

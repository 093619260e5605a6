-- The last read was empty.
use Rattle.std.proofs.Common.{arith}
use Rattle.acsub.proofs.comparing.CompareLemmas.{alike-end}
use Rattle.acsub.proofs.comparing.Comparing.is_same.Goals as goal

pub invariant_of-self : goal.invariant_of-self
invariant_of-self g c = record {
  alike = λ same.
      let self = c.args.self.now in
      let read = c.in-Ok-eq0 in
      alike-end self.file c.read.new.self self.compared.bytes _ read.field-0 (omega (arith, read.field-0-is)) (self.alike same)
      read.ensures.gave;
}

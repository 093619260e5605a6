-- The classes that are left begin with the one that is returned.
use Rattle.std.proofs.Common.{◌<◌, arith, sym, ◌∙◌, ap, length}
use Rattle.ac_input.proofs.alphabet.AlphabetLemmas.{range-first}
use Rattle.ac_input.proofs.alphabet.byte_classes.ByteClassIterIterator.next.Goals as goal

pub returns-clause-steps : goal.returns-clause-steps
returns-clause-steps c =
    let more : c.self.inside.at < c.self.inside.end = omega arith in
    sym c.self.view_is ∙ range-first more

pub returns-clause-goes : goal.returns-clause-goes
returns-clause-goes c =
    let more : c.self.inside.at < c.self.inside.end = omega arith in
    let split = sym c.self.view_is ∙ range-first more in
    let longer = ap length split in
    record { on = λ _. (tt, tt, omega arith); keeps = tt; rests = λ _. tt }

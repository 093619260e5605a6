-- The last byte has the greatest class.
use Rattle.std.proofs.Common.{arith}
use Rattle.ac_input.proofs.alphabet.AlphabetLemmas.{class-within}
use Rattle.ac_input.proofs.alphabet.byte_classes.ByteClasses.get.Goals as goal

pub returns-clause-fits : goal.returns-clause-fits
returns-clause-fits c = rw (← c.self.view_is) (class-within c.self.invariant (omega arith))

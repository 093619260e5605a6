-- The number of words depends on the form of the state.
use Rattle.std.proofs.Common.{arith}
use Rattle.std.proofs.lemmas.Bool.Decides.{nat_tests}
use Rattle.ac_tables.proofs.contiguous.places.words_len.Goals as goal

pub returns-then-shallow-clause-len : goal.returns-then-shallow-clause-len
returns-then-shallow-clause-len c = grind (arith, nat_tests)

pub returns-clause-len : goal.returns-clause-len
returns-clause-len c = grind (arith, nat_tests)

-- In each arm the exponent below the result isn't enough.
use Rattle.std.proofs.Common.{arith}
use Rattle.ac_input.proofs.alphabet.AlphabetLemmas.{IsLeastExponent-next}
use Rattle.ac_input.proofs.alphabet.byte_classes.ByteClasses.stride2.Goals as goal

pub returns-in-1-clause-value : goal.returns-in-1-clause-value
returns-in-1-clause-value c = rw (← c.self.view_is) (IsLeastExponent-next 0 (omega arith) (omega arith))

pub returns-in-2-to-3-clause-value : goal.returns-in-2-to-3-clause-value
returns-in-2-to-3-clause-value c = rw (← c.self.view_is) (IsLeastExponent-next 1 (omega arith) (omega arith))

pub returns-in-4-to-7-clause-value : goal.returns-in-4-to-7-clause-value
returns-in-4-to-7-clause-value c = rw (← c.self.view_is) (IsLeastExponent-next 2 (omega arith) (omega arith))

pub returns-in-8-to-15-clause-value : goal.returns-in-8-to-15-clause-value
returns-in-8-to-15-clause-value c = rw (← c.self.view_is) (IsLeastExponent-next 3 (omega arith) (omega arith))

pub returns-in-16-to-31-clause-value : goal.returns-in-16-to-31-clause-value
returns-in-16-to-31-clause-value c = rw (← c.self.view_is) (IsLeastExponent-next 4 (omega arith) (omega arith))

pub returns-in-32-to-63-clause-value : goal.returns-in-32-to-63-clause-value
returns-in-32-to-63-clause-value c = rw (← c.self.view_is) (IsLeastExponent-next 5 (omega arith) (omega arith))

pub returns-in-64-to-127-clause-value : goal.returns-in-64-to-127-clause-value
returns-in-64-to-127-clause-value c = rw (← c.self.view_is) (IsLeastExponent-next 6 (omega arith) (omega arith))

pub returns-in_default-clause-value : goal.returns-in_default-clause-value
returns-in_default-clause-value c = rw (← c.self.view_is) (IsLeastExponent-next 7 (omega arith) (omega arith))

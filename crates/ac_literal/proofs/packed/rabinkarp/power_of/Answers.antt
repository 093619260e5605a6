use Rattle.std.proofs.Common.{arith}
use Rattle.ac_literal.proofs.packed.HashLemmas.{power-past}
use Rattle.ac_literal.proofs.packed.rabinkarp.power_of.Goals as goal

pub returns-then-hash_len-gt64 : goal.returns-then-hash_len-gt64
returns-then-hash_len-gt64 c = power-past (omega arith)

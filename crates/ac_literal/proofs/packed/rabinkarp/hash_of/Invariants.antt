use Rattle.std.proofs.Common.{◌≡◌, take}
use Rattle.ac_literal.specs.Packed.RabinKarp.{hash_of}
use Rattle.ac_literal.proofs.packed.rabinkarp.hash_of.Given as goal

abbrev pub invariant-loop-byte : goal.invariant-loop-byte
invariant-loop-byte l = l.hash ≡ hash_of (take l.byte-index l.bytes)

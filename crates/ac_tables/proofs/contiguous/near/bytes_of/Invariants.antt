-- Each class of the bytes so far has a byte.
use Rattle.std.proofs.Common.{◌≡◌, ℕ, ◌<◌, length}
use Rattle.ac_input.specs.Alphabet.{class, alphabet_len}
use Rattle.ac_tables.specs.Contiguous.NearReads.{IsByteOfClass}
use Rattle.ac_tables.proofs.contiguous.near.bytes_of.Given as goal

abbrev pub invariant-loop-byte : goal.invariant-loop-byte
invariant-loop-byte l = record {
  counted : length l.bytes.items ≡ alphabet_len l.classes;
  same : (b : ℕ) → b < l.byte → IsByteOfClass l.classes l.bytes.items (class l.classes b);
}

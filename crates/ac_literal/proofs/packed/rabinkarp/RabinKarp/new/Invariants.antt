use Rattle.std.proofs.Common.{◌≡◌, length}
use Rattle.ac_literal.specs.Packed.RabinKarp.{AreEntries}
use Rattle.ac_literal.proofs.packed.rabinkarp.RabinKarp.new.Given as goal

abbrev pub invariant-loop-number : goal.invariant-loop-number
invariant-loop-number l = record {
  entries : AreEntries l.patterns l.hash_len l.number-items l.heads l.entries.items;
  count : length l.entries.items ≡ l.number-index;
  heads : length l.heads ≡ 1024;
}

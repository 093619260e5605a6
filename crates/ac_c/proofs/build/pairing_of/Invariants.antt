-- The first pairs are copied so far, and name bytes.
use Rattle.std.proofs.Common.{◌≡◌, length, take}
use Rattle.ac_input.specs.Pairing.{named}
use Rattle.ac_c.specs.Build.{pairs_of}
use Rattle.ac_c.proofs.build.PairLemmas.{AreBytes}
use Rattle.ac_c.proofs.build.pairing_of.Given as goal

abbrev pub invariant-loop-at : goal.invariant-loop-at
invariant-loop-at l = record {
  copied : take l.at l.first ≡ pairs_of (take l.at l.pairs);
  bytes : AreBytes (named (take l.at l.first));
  room : length l.first ≡ 129;
}

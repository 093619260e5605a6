use Rattle.std.proofs.Common.{◌≡◌, ℕ, ◌<◌}
use Rattle.ac_input.specs.Same.{other}
use Rattle.ac_noncontiguous.proofs.compiler.transitions.is_unpaired.Given as goal

abbrev pub invariant-loop-byte : goal.invariant-loop-byte
invariant-loop-byte l = (b : ℕ) → b < l.byte → other l.trie.pairing b ≡ b

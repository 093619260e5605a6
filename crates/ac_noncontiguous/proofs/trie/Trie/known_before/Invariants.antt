use Rattle.std.proofs.Common.{◌-◌, ◌≤◌}
use Rattle.ac_noncontiguous.proofs.trie.Trie.known_before.Given as goal

abbrev pub invariant-loop-low : goal.invariant-loop-low
invariant-loop-low l = l.low ≤ l.byte

abbrev pub decreases-loop-low : goal.decreases-loop-low
decreases-loop-low l = l.low - l.least

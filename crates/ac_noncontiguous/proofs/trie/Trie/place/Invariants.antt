use Rattle.std.proofs.Common.{◌-◌, ◌==◌, if◌then◌else◌}
use Rattle.ac_noncontiguous.specs.Trie.Tree.{IsSiblingWalk, byte}
use Rattle.ac_noncontiguous.proofs.trie.Trie.place.Given as goal

abbrev pub invariant-loop-at : goal.invariant-loop-at
invariant-loop-at l = IsSiblingWalk l.self.states.items l.fn.of l.byte l.before l.at

abbrev pub decreases-loop-at : goal.decreases-loop-at
decreases-loop-at l = if l.at == 0 then 0 else 256 - byte l.self.states.items l.at

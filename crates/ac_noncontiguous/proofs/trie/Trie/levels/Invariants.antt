use Rattle.std.proofs.Common.{◌≤◌, length}
use Rattle.ac_noncontiguous.specs.Links.Order.{AreLevels}
use Rattle.ac_noncontiguous.proofs.trie.Trie.levels.Given as goal

abbrev pub invariant-loop-from : goal.invariant-loop-from
invariant-loop-from l =
    (l.from ≤ length l.self.states.items) × AreLevels l.self.states.items l.from l.first.items l.next.items

abbrev pub decreases-loop-from : goal.decreases-loop-from
decreases-loop-from l = l.from

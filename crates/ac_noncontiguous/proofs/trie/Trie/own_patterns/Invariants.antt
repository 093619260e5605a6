use Rattle.std.proofs.Common.{◌≤◌, length}
use Rattle.ac_noncontiguous.specs.Links.Own.{AreOwnChains}
use Rattle.ac_noncontiguous.proofs.trie.Trie.own_patterns.Given as goal

abbrev pub invariant-loop-from : goal.invariant-loop-from
invariant-loop-from l =
    (l.from ≤ length l.self.ends.items)
    × AreOwnChains (length l.self.states.items) l.self.ends.items l.from l.first.items l.next.items

abbrev pub decreases-loop-from : goal.decreases-loop-from
decreases-loop-from l = l.from

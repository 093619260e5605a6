use Rattle.std.proofs.Common.{ℕ, ◌-◌, length}
use Rattle.ac_noncontiguous.specs.Links.Order.{IsNextOf, AreInOrder}
use Rattle.ac_noncontiguous.proofs.trie.Trie.push_level.Given as goal

abbrev pub invariant-loop-at : goal.invariant-loop-at
invariant-loop-at l =
    (from : ℕ) × IsNextOf l.self.states.items l.fn.depth from l.at
    × AreInOrder l.self.states.items l.fn.depth from l.order.items

abbrev pub decreases-loop-at : goal.decreases-loop-at
decreases-loop-at l = length l.self.states.items - l.at

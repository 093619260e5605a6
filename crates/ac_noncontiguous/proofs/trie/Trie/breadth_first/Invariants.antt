use Rattle.ac_noncontiguous.specs.Links.Order.{AreInOrder}
use Rattle.ac_noncontiguous.proofs.trie.Trie.breadth_first.Given as goal

abbrev pub invariant-loop-depth : goal.invariant-loop-depth
invariant-loop-depth l = AreInOrder l.self.states.items l.depth 0 l.order.items

use Rattle.ac_noncontiguous.specs.Links.Children.{AreAllChildren}
use Rattle.ac_noncontiguous.proofs.trie.Trie.children.Given as goal

abbrev pub invariant-loop-of : goal.invariant-loop-of
invariant-loop-of l = AreAllChildren l.self.states.items l.of l.firsts.items l.ids.items l.bytes.items

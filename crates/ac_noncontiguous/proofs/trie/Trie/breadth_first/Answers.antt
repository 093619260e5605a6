-- The depth of each state is less than the number of states.
use Rattle.std.proofs.Common.{arith}
use Rattle.ac_noncontiguous.proofs.lemmas.OrderLemmas.{order-all}
use Rattle.ac_noncontiguous.proofs.trie.Trie.breadth_first.Goals as goal

pub returns : goal.returns
returns c = order-all c.args.self.now.tree (omega arith) c.loop-depth.invariant

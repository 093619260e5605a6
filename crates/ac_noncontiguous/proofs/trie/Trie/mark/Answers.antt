-- The state is set to itself, made a match state.
use Rattle.std.proofs.Common.{arith}
use Rattle.ac_noncontiguous.proofs.trie.OwnLemmas.{ends-set}
use Rattle.ac_noncontiguous.proofs.trie.MarkLemmas.{tree-marked, marked-marked}
use Rattle.ac_noncontiguous.proofs.trie.LinkedLemmas.{few-set}
use Rattle.ac_noncontiguous.proofs.trie.Trie.mark.Goals as goal

pub invariant_of-self-clause-tree : goal.invariant_of-self-clause-tree
invariant_of-self-clause-tree c =
    tree-marked _ _ _ (omega (arith, c.as_usize.ensures.value, c.requires)) c.index_mut.ensures.value
    c.args.self.now.tree

pub invariant_of-self-clause-few : goal.invariant_of-self-clause-few
invariant_of-self-clause-few c = few-set _ _ _ c.args.self.now.few

pub returns-clause-marked : goal.returns-clause-marked
returns-clause-marked c = marked-marked _ _ _ _ c.requires c.as_usize.ensures.value c.index_mut.ensures.value

pub invariant_of-self-clause-placed : goal.invariant_of-self-clause-placed
invariant_of-self-clause-placed c = ends-set _ _ _ _ (omega arith) c.args.self.now.placed

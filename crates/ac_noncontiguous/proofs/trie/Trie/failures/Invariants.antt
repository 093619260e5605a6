use Rattle.ac_input.specs.Dictionary.{Dictionary}
use Rattle.ac_noncontiguous.specs.Trie.Kept.{IsTrieOf}
use Rattle.ac_noncontiguous.specs.Links.Failures.{AreShallower}
use Rattle.ac_noncontiguous.proofs.trie.FailsLemmas.{AreFirstFails}
use Rattle.ac_noncontiguous.proofs.trie.Trie.failures.Given as goal

abbrev pub invariant-loop-id : goal.invariant-loop-id
invariant-loop-id l = record {
  shallower : AreShallower l.self.states.items l.fails.items;
  known : (m : Dictionary) → IsTrieOf m l.self → AreFirstFails m l.self.states.items l.fails.items l.order l.id-index;
}

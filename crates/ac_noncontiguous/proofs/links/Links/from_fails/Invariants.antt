use Rattle.std.proofs.Common.{◌+◌, ◌≤◌, length}
use Rattle.ac_input.specs.Dictionary.{Dictionary}
use Rattle.ac_noncontiguous.specs.Trie.Kept.{IsTrieOf}
use Rattle.ac_noncontiguous.specs.Links.{AreFails, by_state}
use Rattle.ac_noncontiguous.proofs.links.ListLemmas.{AreFirstLists, AreRoom}
use Rattle.ac_noncontiguous.proofs.links.Links.from_fails.Given as goal

abbrev pub invariant-loop-id : goal.invariant-loop-id
invariant-loop-id l = record {
  room : AreRoom l.trie.states.items l.trie.ends.items (by_state l.ranges) l.matches.items;
  known : (m : Dictionary) → IsTrieOf m l.trie → AreFails m l.trie.states.items l.fn.fails.items
      → AreFirstLists m l.trie.states.items (by_state l.ranges) l.matches.items l.order l.id-index;
  few : length l.ranges.each.items ≤ l.id-index + 1;
}

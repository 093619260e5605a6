use Rattle.std.proofs.Common.{◌≡◌, ℕ, ◌-◌, ◌++◌, List, length}
use Rattle.ac_noncontiguous.specs.Links.Own.{IsNextEnd}
use Rattle.ac_noncontiguous.proofs.trie.Trie.push_own.Given as goal
use Rattle.ac_noncontiguous.proofs.trie.OwnLemmas.{AreOwnBefore}

abbrev pub invariant-loop-at : goal.invariant-loop-at
invariant-loop-at l =
    (from : ℕ) × (found : List ℕ) × IsNextEnd l.self.ends.items l.fn.id from l.at
    × AreOwnBefore l.self.ends.items l.fn.id from found × (l.list.items ≡ l.initial.list.items ++ found)

abbrev pub decreases-loop-at : goal.decreases-loop-at
decreases-loop-at l = length l.self.ends.items - l.at

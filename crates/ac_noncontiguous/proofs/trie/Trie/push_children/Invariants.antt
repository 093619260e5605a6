use Rattle.std.proofs.Common.{◌≡◌, ℕ, ◌-◌, ◌==◌, ◌++◌, map, List, length, if◌then◌else◌}
use Rattle.ac_noncontiguous.specs.Trie.Tree.{IsFirstChild, parent, byte}
use Rattle.ac_noncontiguous.proofs.trie.ChildrenLemmas.{AreChildrenBelow}
use Rattle.ac_noncontiguous.proofs.trie.Trie.push_children.Given as goal

abbrev pub invariant-loop-at : goal.invariant-loop-at
invariant-loop-at l =
    (low : ℕ) × (found : List ℕ) × IsFirstChild (length l.self.states.items) (parent l.self.states.items)
    (byte l.self.states.items) l.fn.of low l.at × AreChildrenBelow l.self.states.items l.fn.of low found
    × (l.ids.items ≡ l.initial.ids.items ++ found) × (l.bytes.items ≡ map (byte l.self.states.items) l.ids.items)

abbrev pub decreases-loop-at : goal.decreases-loop-at
decreases-loop-at l = if l.at == 0 then 0 else 256 - byte l.self.states.items l.at

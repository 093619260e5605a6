use Rattle.std.proofs.Common.{◌≡◌, ℕ, ◌-◌, ◌==◌, if◌then◌else◌, length}
use Rattle.ac_noncontiguous.specs.Trie.Tree.{IsFirstChild, parent, byte}
use Rattle.ac_noncontiguous.proofs.compiler.edges.targets.Given as goal
use Rattle.ac_noncontiguous.proofs.compiler.EdgeLemmas.{AreTargetsBelow}

abbrev pub invariant-loop-at : goal.invariant-loop-at
invariant-loop-at l =
    (from : ℕ) × IsFirstChild (length l.trie.states.items) (parent l.trie.states.items) (byte l.trie.states.items)
    l.fn.of from l.at × AreTargetsBelow l.trie.states.items l.numbering.of.items l.fn.of l.fn.other from l.targets
    × (length l.targets ≡ 256)

abbrev pub decreases-loop-at : goal.decreases-loop-at
decreases-loop-at l = if l.at == 0 then 0 else 256 - byte l.trie.states.items l.at

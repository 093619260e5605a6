use Rattle.std.proofs.Common.{◌≡◌, ℕ, ◌-◌, ◌==◌, ◌++◌, if◌then◌else◌, List, length}
use Rattle.ac_noncontiguous.specs.declared.nfa.tables.Transition.{Transition}
use Rattle.ac_noncontiguous.specs.Trie.Tree.{IsFirstChild, parent, byte}
use Rattle.ac_noncontiguous.specs.Compiler.Only.{AreToChildren}
use Rattle.ac_noncontiguous.proofs.compiler.transitions.push_children.Given as goal

abbrev pub invariant-loop-at : goal.invariant-loop-at
invariant-loop-at l =
    (to : ℕ) × IsFirstChild (length l.trie.states.items) (parent l.trie.states.items) (byte l.trie.states.items)
    l.fn.of to l.at × ((added : List Transition) × (l.transitions.items ≡ l.initial.transitions.items ++ added)
    × AreToChildren l.trie l.numbering l.fn.of to added)

abbrev pub decreases-loop-at : goal.decreases-loop-at
decreases-loop-at l = if l.at == 0 then 0 else 256 - byte l.trie.states.items l.at

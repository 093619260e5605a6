use Rattle.ac_noncontiguous.specs.Compiler.Layout.{AreLaidOut}
use Rattle.ac_noncontiguous.proofs.compiler.transitions.Transitions.new.Given as goal

abbrev pub invariant-loop-state : goal.invariant-loop-state
invariant-loop-state l = AreLaidOut l.trie l.numbering l.fn.back l.state l.offsets.items l.transitions.items

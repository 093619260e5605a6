use Rattle.ac_noncontiguous.specs.Compiler.Assembly.{AreOutlines}
use Rattle.ac_noncontiguous.proofs.compiler.outlines.outlines.Given as goal

abbrev pub invariant-loop-state : goal.invariant-loop-state
invariant-loop-state l = AreOutlines l.trie l.numbering l.links l.state l.outlines.items

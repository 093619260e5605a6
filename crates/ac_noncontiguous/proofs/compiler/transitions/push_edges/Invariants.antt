use Rattle.ac_noncontiguous.specs.Compiler.Layout.{AreAppended}
use Rattle.ac_noncontiguous.proofs.compiler.transitions.push_edges.Given as goal

abbrev pub invariant-loop-byte : goal.invariant-loop-byte
invariant-loop-byte l = AreAppended l.edges l.all l.byte l.initial.transitions.items l.transitions.items

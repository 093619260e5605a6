use Rattle.ac_noncontiguous.proofs.compiler.RowLemmas.{AreBoundaries}
use Rattle.ac_noncontiguous.proofs.compiler.rows.classes.Given as goal

abbrev pub invariant-loop-id : goal.invariant-loop-id
invariant-loop-id l = AreBoundaries l.trie l.id l.set

use Rattle.ac_noncontiguous.specs.Compiler.Layout.{HaveRows, AreRowedUpTo}
use Rattle.ac_noncontiguous.proofs.compiler.rows.Rows.new.Given as goal

abbrev pub invariant-loop-id : goal.invariant-loop-id
invariant-loop-id l = record {
  have : HaveRows l.trie l.numbering l.links l.fn.back l.classes l.rows.offsets.items l.rows.rows.items;
  rowed : AreRowedUpTo l.trie l.numbering l.order l.dense_depth l.id-index l.rows;
}

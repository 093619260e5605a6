-- The outline of one state after another is appended.
use Rattle.std.proofs.Common.{◌+◌, subst, sym}
use Rattle.ac_noncontiguous.specs.Compiler.Assembly.{AreOutlines}
use Rattle.ac_noncontiguous.proofs.compiler.AssemblyLemmas.{outlines-more}
use Rattle.ac_noncontiguous.proofs.compiler.outlines.outlines.Goals as goal

pub loop-state-preserved : goal.loop-state-preserved
loop-state-preserved c =
    subst (AreOutlines c.args.trie.now c.args.numbering.now c.args.links.now (c.loop-state.state + 1))
    (sym c.in_ok-push.ensures.items) (outlines-more c.outlined.ensures c.loop-state.invariant)

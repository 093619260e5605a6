-- The walk along the children stays among them, and each has a greater byte than the one before.
use Rattle.std.proofs.Common.{◌<◌, arith}
use Rattle.std.proofs.lemmas.Bool.Decides.{nat_tests}
use Rattle.ac_noncontiguous.proofs.trie.TreeLemmas.{way-at, way-more, place-from, byte-rises}
use Rattle.ac_noncontiguous.proofs.trie.Trie.place.Goals as goal
use Rattle.ac_noncontiguous.proofs.trie.Trie.place.Goals.{then-loop-at-test+else-state-byte, else-loop-at-test}

pub state-requires : goal.state-requires
state-requires c =
    let some : 0 < c.loop-at.at = grind (arith, nat_tests) in
    (way-at c.args.self.now.tree c.requires c.loop-at.invariant some).0

pub state-at-requires : goal.state-at-requires
state-at-requires c =
    let some : 0 < c.loop-at.at = grind (arith, nat_tests) in
    (way-at c.args.self.now.tree c.requires c.loop-at.invariant some).0

pub loop-at-preserved : goal.loop-at-preserved
loop-at-preserved c =
    let some : 0 < c.loop-at.at = grind (arith, nat_tests) in
    rw c.state-at.ensures
    (way-more _ _ _ _ _ c.args.self.now.tree c.requires c.loop-at.invariant some
    (rw c.state.ensures at c.if-state-byte.true))

pub loop-at-smaller : goal.loop-at-smaller
loop-at-smaller c =
    let some : 0 < c.loop-at.at = grind (arith, nat_tests) in
    rw c.state-at.ensures
    (byte-rises _ _ _ _ _ c.args.self.now.tree c.requires c.loop-at.invariant some
    (rw c.state.ensures at c.if-state-byte.true) (omega (arith, c.ranges.byte)))

pub returns : goal.returns
returns c =
    elim c.loop-at-test.branch [
      | then-loop-at-test+else-state-byte w ↦
          place-from c.loop-at.invariant (λ _. rw w.state.ensures at w.if-state-byte.false)
      | else-loop-at-test w ↦ place-from c.loop-at.invariant (λ some. absurd (grind (arith, nat_tests)))
    ]

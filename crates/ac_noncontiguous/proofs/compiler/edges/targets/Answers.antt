-- The children come in rising order of byte.
use Rattle.std.proofs.Common.{◌≡◌, ◌<◌, rules, ap, ◌∙◌, sym, subst, arith, length, ◌+◌, length-set}
use Rattle.std.proofs.lemmas.Bool.Decides.{nat_tests}
use Rattle.ac_noncontiguous.specs.Trie.Tree.{IsFirstChild, parent, byte, child, sibling}
use Rattle.ac_noncontiguous.proofs.lemmas.IndexLemmas.{read-there}
use Rattle.ac_noncontiguous.proofs.compiler.EdgeLemmas.{targets-none, targets-set, targets-all, sibling-first, sibling-rises}
use Rattle.ac_noncontiguous.proofs.compiler.edges.targets.Goals as goal

pub loop-at-init : goal.loop-at-init
loop-at-init c =
    let states = c.args.trie.now.states.items in
    let first : c.state-at.result.child ≡ child states c.args.of = ap (λ s. s.child) c.state-at.ensures in (
      0,
      subst (IsFirstChild (length states) (parent states) (byte states) c.args.of 0) (sym first)
          (c.args.trie.now.tree.children c.args.of c.requires.within),
      targets-none c.filled-targets.ensures,
      search rules,
    )

pub loop-at-preserved : goal.loop-at-preserved
loop-at-preserved c =
    let states = c.args.trie.now.states.items in
    let at = c.loop-at.at in
    let targets = c.loop-at.targets in
    let some : 0 < at = grind (arith, nat_tests) in
    let f = c.loop-at.invariant.1 in
    let within : at < length states = (f.is_child some).0 in
    let low : c.state-child.result.byte ≡ byte states at = ap (λ s. s.byte) c.state-child.ensures in
    let next : c.state-child.result.sibling ≡ sibling states at = ap (λ s. s.sibling) c.state-child.ensures in
    let read = read-there c.args.numbering.now.of.items (omega (arith, within, c.requires.numbers))
    c.as_usize.ensures.value c.index.ensures in (
      byte states at + 1,
      subst (IsFirstChild (length states) (parent states) (byte states) c.args.of (byte states at + 1)) (sym next)
          (sibling-first states c.args.trie.now.tree some f),
      targets-set c.args.trie.now.tree some (omega (arith, c.loop-at.invariant.3)) low read f c.loop-at.invariant.2,
      length-set targets c.state-child.result.byte c.index.result.now ∙ c.loop-at.invariant.3,
    )

pub loop-at-smaller : goal.loop-at-smaller
loop-at-smaller c =
    let states = c.args.trie.now.states.items in
    let some : 0 < c.loop-at.at = grind (arith, nat_tests) in
    let low : c.state-child.result.byte ≡ byte states c.loop-at.at = ap (λ s. s.byte) c.state-child.ensures in
    rw c.state-child.ensures (sibling-rises states c.args.trie.now.tree some (omega arith) c.loop-at.invariant.1)

pub state-child-requires : goal.state-child-requires
state-child-requires c =
    let some : 0 < c.loop-at.at = grind (arith, nat_tests) in
    (c.loop-at.invariant.1.is_child some).0

pub returns : goal.returns
returns c = targets-all (grind (arith, nat_tests)) c.loop-at.invariant.1 c.loop-at.invariant.2

-- The children come in rising order of byte.
use Rattle.std.proofs.Common.{◌≡◌, ◌<◌, ◌++◌, ◌∷◌, [], ap, ◌∙◌, sym, subst, arith, length, ◌+◌, append_assoc}
use Rattle.std.proofs.lemmas.Bool.Decides.{nat_tests}
use Rattle.std.proofs.lemmas.List.{append-nil}
use Rattle.ac_noncontiguous.specs.declared.nfa.tables.Transition.{Transition}
use Rattle.ac_noncontiguous.specs.Trie.Tree.{IsFirstChild, parent, byte, child, sibling}
use Rattle.ac_noncontiguous.proofs.lemmas.IndexLemmas.{read-there}
use Rattle.ac_noncontiguous.proofs.compiler.ChildrenLemmas.{children-none, children-more, children-past}
use Rattle.ac_noncontiguous.proofs.compiler.EdgeLemmas.{sibling-first, sibling-rises}
use Rattle.ac_noncontiguous.proofs.compiler.transitions.push_children.Goals as goal

pub loop-at-init : goal.loop-at-init
loop-at-init c =
    let trie = c.args.trie.now in
    let states = trie.states.items in
    let first : c.state-at.result.child ≡ child states c.args.of = ap (λ s. s.child) c.state-at.ensures in (
      0,
      subst (IsFirstChild (length states) (parent states) (byte states) c.args.of 0) (sym first)
          (trie.tree.children c.args.of c.requires.within),
      ([], sym (append-nil c.args.transitions.now.items), children-none trie c.args.numbering.now c.args.of),
    )

pub loop-at-preserved : goal.loop-at-preserved
loop-at-preserved c =
    let trie = c.args.trie.now in
    let states = trie.states.items in
    let at = c.loop-at.at in
    let some : 0 < at = grind (arith, nat_tests) in
    let f = c.loop-at.invariant.1 in
    let w = c.loop-at.invariant.2 in
    let within : at < length states = (f.is_child some).0 in
    let low : c.state-child.result.byte ≡ byte states at = ap (λ s. s.byte) c.state-child.ensures in
    let next : c.state-child.result.sibling ≡ sibling states at = ap (λ s. s.sibling) c.state-child.ensures in
    let numbers = c.requires.numbering.numbers.counted in
    let read = read-there c.args.numbering.now.of.items (omega (arith, within, numbers))
    c.as_usize.ensures.value c.index-next.ensures in
    let t : Transition = record { byte = c.state-child.result.byte; next = c.index-next.result.now } in (
      byte states at + 1,
      subst (IsFirstChild (length states) (parent states) (byte states) c.args.of (byte states at + 1)) (sym next)
          (sibling-first states trie.tree some f),
      (
        w.0 ++ t ∷ [],
        c.in_ok-push.ensures.items ∙ (ap (λ l. l ++ t ∷ []) w.1 ∙ append_assoc c.args.transitions.now.items w.0 (t ∷ [])),
        children-more trie c.args.numbering.now c.args.of c.loop-at.invariant.0 at c.state-child.result.byte _ w.0 some f low
            (omega arith) read w.2,
      ),
    )

pub loop-at-smaller : goal.loop-at-smaller
loop-at-smaller c =
    let states = c.args.trie.now.states.items in
    let some : 0 < c.loop-at.at = grind (arith, nat_tests) in
    let low : c.state-child.result.byte ≡ byte states c.loop-at.at = ap (λ s. s.byte) c.state-child.ensures in
    rw c.state-child.ensures (sibling-rises states c.args.trie.now.tree some (omega arith) c.loop-at.invariant.1)

pub state-child-requires : goal.state-child-requires
state-child-requires c =
    let some : 0 < c.loop-at.at = grind (arith, nat_tests) in
    (c.loop-at.invariant.1.is_child some).0

pub returns : goal.returns
returns c =
    let w = c.loop-at.invariant.2 in
    let trie = c.args.trie.now in
    let end : c.loop-at.at ≡ 0 = grind (arith, nat_tests) in (
      w.0,
      c.loop-at.invariant.0,
      w.1,
      w.2,
      children-past trie c.args.of c.loop-at.invariant.0
          (subst (IsFirstChild (length trie.states.items) (parent trie.states.items) (byte trie.states.items) c.args.of
          c.loop-at.invariant.0) end c.loop-at.invariant.1),
    )

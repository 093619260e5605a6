-- The first child and its siblings are the children, in rising order of byte.
use Rattle.std.proofs.Common.{◌+◌, ◌<◌, ◌∷◌, ◌++◌, [], length, map, subst, sym, ap, ◌∙◌, append-nil, append_assoc, arith}
use Rattle.std.proofs.lemmas.Bool.Decides.{nat_tests}
use Rattle.std.proofs.lemmas.List.{map-append}
use Rattle.ac_noncontiguous.specs.Trie.Tree.{IsFirstChild, parent, byte, sibling}
use Rattle.ac_noncontiguous.proofs.trie.ChildrenLemmas.{below-none, below-more, below-all}
use Rattle.ac_noncontiguous.proofs.trie.Trie.push_children.Goals as goal

pub loop-at-init : goal.loop-at-init
loop-at-init c =
    let states = c.args.self.now.states.items in (
      0,
      [],
      subst (λ z. IsFirstChild (length states) (parent states) (byte states) c.args.of 0 z)
          (sym (ap (λ s. s.child) c.state-at.ensures)) (c.args.self.now.tree.children c.args.of c.requires.within),
      below-none,
      sym (append-nil _),
      c.requires.before,
    )

pub loop-at-preserved : goal.loop-at-preserved
loop-at-preserved c =
    let states = c.args.self.now.states.items in
    let tree = c.args.self.now.tree in
    let i = c.loop-at.invariant in
    let at = c.loop-at.at in
    let some : 0 < at = grind (arith, nat_tests) in
    let h = i.2.is_child some in
    let pushed = c.in_ok-push.ensures.items in (
      byte states at + 1,
      i.1 ++ at ∷ [],
      subst (λ z. IsFirstChild (length states) (parent states) (byte states) c.args.of (byte states at + 1) z)
          (sym (ap (λ s. s.sibling) c.state-state.ensures))
          (subst (λ p. IsFirstChild (length states) (parent states) (byte states) p (byte states at + 1)
          (sibling states at)) h.1 (tree.siblings at some h.0)),
      below-more tree i.2 some i.3,
      pushed ∙ (ap (λ xs. xs ++ at ∷ []) i.4 ∙ append_assoc c.args.ids.now.items i.1 (at ∷ [])),
      c.in_ok-push-2.ensures.items
          ∙ (ap (λ xs. xs ++ c.state-state.result.byte ∷ []) i.5
          ∙ (ap (λ b. map (byte states) c.loop-at.ids.items ++ b ∷ []) (ap (λ s. s.byte) c.state-state.ensures)
          ∙ (sym (map-append (byte states) c.loop-at.ids.items (at ∷ [])) ∙ ap (map (byte states)) (sym pushed)))),
    )

pub returns-clause-children : goal.returns-clause-children
returns-clause-children c =
    let i = c.loop-at.invariant in
    (i.1, below-all i.2 (grind (arith, nat_tests)) i.3, i.4)

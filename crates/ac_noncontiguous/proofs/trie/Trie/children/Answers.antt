-- The children of one state after another are appended.
use Rattle.std.proofs.Common.{◌≡◌, ◌∷◌, ◌++◌, [], length, subst, ap, ◌∙◌, arith, rules}
use Rattle.std.proofs.lemmas.Grind.{common_steps}
use Rattle.ac_noncontiguous.specs.Links.Children.{AppendsChildren, AreAllChildren}
use Rattle.ac_noncontiguous.proofs.trie.ChildrenLemmas.{all-none, all-more}
use Rattle.ac_noncontiguous.proofs.trie.Trie.children.Goals as goal

pub loop-of-init : goal.loop-of-init
loop-of-init c = all-none (search rules) (search rules) (search rules)

pub push_children-requires-clause-before : goal.push_children-requires-clause-before
push_children-requires-clause-before c = c.loop-of.invariant.bytes_are

pub loop-of-preserved : goal.loop-of-preserved
loop-of-preserved c =
    let states = c.args.self.now.states.items in
    let more = subst (λ z. AppendsChildren states z c.loop-of.ids.items c.push_children.new.ids.items) c.must.ensures
    c.in_ok-push_children.ensures.children in
    let long : c.len.result ≡ length c.push_children.new.ids.items = omega arith in
    all-more c.loop-of.invariant more c.in_ok-push_children.ensures.bytes
    (c.in_ok-push-2.ensures.items ∙ ap (λ n. c.loop-of.firsts.items ++ n ∷ []) long)

pub returns-in_err-push-2 : goal.returns-in_err-push-2
returns-in_err-push-2 c = grind (arith, common_steps)

pub returns : goal.returns
returns c =
    subst (λ n. AreAllChildren c.args.self.now.states.items n c.loop-of.firsts.items c.loop-of.ids.items c.loop-of.bytes.items)
    (omega arith) c.loop-of.invariant

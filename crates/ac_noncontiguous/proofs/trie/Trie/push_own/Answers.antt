-- The list of a state leads from each pattern to the next one.
use Rattle.std.proofs.Common.{◌≡◌, ◌+◌, ◌<◌, ◌∷◌, ◌++◌, [], length, subst, sym, ap, ◌∙◌, append-nil, append_assoc, arith}
use Rattle.std.proofs.lemmas.List.{get_or_read}
use Rattle.ac_noncontiguous.specs.Links.Own.{IsNextEnd}
use Rattle.ac_noncontiguous.proofs.lemmas.IndexLemmas.{read-there}
use Rattle.ac_noncontiguous.proofs.trie.OwnLemmas.{list-none, list-more, list-all, next-nearer}
use Rattle.ac_noncontiguous.proofs.trie.Trie.push_own.Goals as goal

pub loop-at-init : goal.loop-at-init
loop-at-init c =
    let o = c.requires.own in
    let read = read-there c.args.own.now.first.items (omega (arith, o.lens.0, c.requires.within))
    c.as_usize.ensures.value c.index.ensures in (
      0,
      [],
      subst (IsNextEnd c.args.self.now.ends.items c.args.id 0) (sym read) (o.firsts c.args.id c.requires.within),
      list-none,
      sym (append-nil _),
    )

pub loop-at-preserved : goal.loop-at-preserved
loop-at-preserved c =
    let ends = c.args.self.now.ends.items in
    let at = c.loop-at.at in
    let found = c.loop-at.invariant.1 in
    let n = c.loop-at.invariant.2 in
    let inside : at < length ends = omega arith in
    let o = c.requires.own in
    let read = get_or_read c.args.own.now.next.items at c.index-in-loop-at.result.now (omega (arith, o.lens.1))
    c.index-in-loop-at.ensures 0 in
    let pushed : c.push.new.self.items ≡ c.loop-at.list.items ++ at ∷ [] = c.in_ok-push.ensures.items
    ∙ ap (λ i. c.loop-at.list.items ++ i ∷ []) c.must.ensures in (
      at + 1,
      found ++ at ∷ [],
      subst (IsNextEnd ends c.args.id (at + 1)) (sym read) (o.nexts at c.args.id (omega arith) (n.found inside).1),
      list-more n inside c.loop-at.invariant.3,
      pushed ∙ (ap (λ xs. xs ++ at ∷ []) c.loop-at.invariant.4 ∙ append_assoc c.args.list.now.items found (at ∷ [])),
    )

pub loop-at-smaller : goal.loop-at-smaller
loop-at-smaller c =
    let ends = c.args.self.now.ends.items in
    let at = c.loop-at.at in
    let inside : at < length ends = omega arith in
    let o = c.requires.own in
    let read = get_or_read c.args.own.now.next.items at c.index-in-loop-at.result.now (omega (arith, o.lens.1))
    c.index-in-loop-at.ensures 0 in
    next-nearer inside
    (subst (IsNextEnd ends c.args.id (at + 1)) (sym read)
    (o.nexts at c.args.id (omega arith) (c.loop-at.invariant.2.found inside).1))

pub returns : goal.returns
returns c =
    (c.loop-at.invariant.1, list-all c.loop-at.invariant.2 (omega arith) c.loop-at.invariant.3, c.loop-at.invariant.4)

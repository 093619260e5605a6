-- The list of a depth leads from each state to the next one.
use Rattle.std.proofs.Common.{◌≡◌, ◌+◌, ◌<◌, ◌∷◌, ◌++◌, [], length, slice_index, subst, sym, ap, ◌∙◌, arith}
use Rattle.std.proofs.lemmas.List.{get_or_read}
use Rattle.ac_noncontiguous.specs.Links.Order.{IsNextOf, AreInOrder}
use Rattle.ac_noncontiguous.proofs.lemmas.OrderLemmas.{order-more, order-next}
use Rattle.ac_noncontiguous.proofs.trie.Trie.push_level.Goals as goal

pub loop-at-init : goal.loop-at-init
loop-at-init c =
    let l = c.requires.levels in
    let read = get_or_read c.args.levels.now.first.items c.args.depth c.index.result.now
    (omega (arith, l.lens.0, c.requires.depth_in)) c.index.ensures 0 in (
      0,
      subst (IsNextOf c.args.self.now.states.items c.args.depth 0) (sym read)
          (l.firsts c.args.depth c.requires.depth_in),
      c.requires.before,
    )

pub loop-at-preserved : goal.loop-at-preserved
loop-at-preserved c =
    let states = c.args.self.now.states.items in
    let at = c.loop-at.at in
    let n = c.loop-at.invariant.1 in
    let inside : at < length states = omega arith in
    let l = c.requires.levels in
    let read = get_or_read c.args.levels.now.next.items at c.index-in-loop-at.result.now (omega (arith, l.lens.1))
    c.index-in-loop-at.ensures 0 in
    let pushed : c.push.new.self.items ≡ c.loop-at.order.items ++ at ∷ [] = c.in_ok-push.ensures.items
    ∙ ap (λ i. c.loop-at.order.items ++ i ∷ []) c.must.ensures in (
      at + 1,
      subst (IsNextOf states c.args.depth (at + 1)) (sym read)
          (subst (λ d. IsNextOf states d (at + 1) (slice_index c.args.levels.now.next.items at)) (n.found inside).1
          (l.nexts at (omega arith) inside)),
      subst (AreInOrder states c.args.depth (at + 1)) (sym pushed) (order-more n inside c.loop-at.invariant.2),
    )

pub returns : goal.returns
returns c = order-next _ _ _ _ _ c.loop-at.invariant.1 (omega arith) c.loop-at.invariant.2

-- A pass from the last state back makes the list of each depth.
use Rattle.std.proofs.Common.{◌≡◌, ◌+◌, ◌-◌, ◌<◌, length, subst, arith}
use Rattle.std.proofs.lemmas.List.{get_or_read}
use Rattle.ac_noncontiguous.specs.Links.Order.{AreLevels}
use Rattle.ac_noncontiguous.proofs.lemmas.OrderLemmas.{levels-filled, levels-more, level-in}
use Rattle.ac_noncontiguous.proofs.trie.Trie.levels.Goals as goal

pub loop-from-init : goal.loop-from-init
loop-from-init c = (
  omega arith,
  levels-filled (omega arith) (c.in_ok-first.ensures.items_if_clones_equal (λ y same. same))
      (omega (arith, c.in_ok-next.ensures.len)),
)

pub index-requires-in-loop-from : goal.index-requires-in-loop-from
index-requires-in-loop-from c =
    let at = level-in _ c.args.self.now.tree (omega (arith, c.loop-from.invariant.0)) c.index.ensures in
    omega (arith, at.1, c.loop-from.invariant.1.lens.0)

pub index_mut-requires-in-loop-from : goal.index_mut-requires-in-loop-from
index_mut-requires-in-loop-from c =
    let at = level-in _ c.args.self.now.tree (omega (arith, c.loop-from.invariant.0)) c.index.ensures in
    omega (arith, at.1, c.loop-from.invariant.1.lens.0)

pub loop-from-preserved : goal.loop-from-preserved
loop-from-preserved c =
    let states = c.args.self.now.states.items in
    let from = c.loop-from.from - 1 in
    let first = c.loop-from.first.items in
    let back : c.loop-from.from ≡ from + 1 = omega arith in
    let within : from < length states = omega (arith, c.loop-from.invariant.0) in
    let at = level-in states c.args.self.now.tree within c.index.ensures in
    let l = subst (λ n. AreLevels states n first c.loop-from.next.items) back c.loop-from.invariant.1 in
    let read = get_or_read first c.index.result.now.depth c.index-in-loop-from.result.now
    (omega (arith, at.1, l.lens.0)) c.index-in-loop-from.ensures 0 in
    (omega (arith, c.loop-from.invariant.0), levels-more within at.0 at.1 read l)

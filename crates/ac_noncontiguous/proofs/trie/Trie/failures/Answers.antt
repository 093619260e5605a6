-- Each state's failure is computed from the failures of the states before it, which include all shallower ones.
use Rattle.std.proofs.Common.{◌<◌, length, arith, rules}
use Rattle.ac_noncontiguous.proofs.trie.FailsLemmas.{order-read, fails-filled, fails-above, shallower-more, fails-more, fails-all}
use Rattle.ac_noncontiguous.proofs.trie.Trie.failures.Goals as goal

pub loop-id-init : goal.loop-id-init
loop-id-init c = record {
  shallower = fails-filled (omega arith) (c.in_ok-fails.ensures.items_if_clones_equal (λ y same. search rules));
  known = λ m t k r lt given. absurd (omega arith);
}

pub failure-failure-requires-clause-within : goal.failure-failure-requires-clause-within
failure-failure-requires-clause-within c = (order-read c.requires (omega arith) c.id-item.is).1

pub index_mut-requires : goal.index_mut-requires
index_mut-requires c =
    let h = order-read c.requires (omega arith) c.id-item.is in
    omega (arith, h.1, c.as_usize.ensures.value, c.loop-id.invariant.shallower.counted)

pub loop-id-preserved : goal.loop-id-preserved
loop-id-preserved c =
    let order = c.args.order.now in
    let fails = c.loop-id.fails.items in
    let k = c.loop-id.id-index in
    let lt : k < length order = omega arith in
    let h = order-read c.requires lt c.id-item.is in
    let is = h.0 in
    let r = c.failure-failure.result in
    rw c.as_usize.ensures.value
    (record {
      shallower = shallower-more c.loop-id.invariant.shallower h.1 c.failure-failure.ensures.shallower;
      known = λ m t.
          let known = c.loop-id.invariant.known m t in
          let above = fails-above fails c.requires lt known in
          let here = rw (← is, ← c.deref.ensures.value) at above in
          fails-more fails r c.requires lt c.loop-id.invariant.shallower.counted is
          (c.failure-failure.ensures.fails m t here) known;
    })

pub returns-clause-fails : goal.returns-clause-fails
returns-clause-fails c m t =
    fails-all c.requires (omega arith) c.loop-id.invariant.shallower (c.loop-id.invariant.known m t)

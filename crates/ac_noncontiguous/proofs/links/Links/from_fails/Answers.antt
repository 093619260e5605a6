-- Each state's list is its own patterns and the list of its failure, which was made before.
use Rattle.std.proofs.Common.{◌<◌, length, sym, arith, rules}
use Rattle.ac_noncontiguous.proofs.trie.FailLemmas.{stands-of}
use Rattle.ac_noncontiguous.proofs.trie.FailsLemmas.{order-read}
use Rattle.ac_noncontiguous.proofs.compiler.PlacesLemmas.{order-short}
use Rattle.ac_noncontiguous.proofs.links.ListLemmas.{room-none, rest-above, room-more, lists-more, lists-all}
use Rattle.ac_noncontiguous.proofs.links.Links.from_fails.Goals as goal

pub loop-id-init : goal.loop-id-init
loop-id-init c = record {
  room = room-none (omega (arith, c.requires.shallower.counted)) c.in_ok-ranges.ensures.empty (search rules);
  known = λ m t leads k lt. absurd (omega arith);
  few = omega (arith, c.in_ok-ranges.ensures.one);
}

pub rest-rest-requires-clause-within : goal.rest-rest-requires-clause-within
rest-rest-requires-clause-within c =
    let h = order-read c.requires.order (omega arith) c.id-item.is in
    rw c.deref.ensures.value (omega (arith, h.1, c.requires.shallower.counted))

pub rest-rest-requires-clause-inner : goal.rest-rest-requires-clause-inner
rest-rest-requires-clause-inner c =
    rw c.deref.ensures.value
    (λ f given.
    omega (arith, (c.requires.shallower.shallower c.id-item.result f given).0, c.requires.shallower.counted))

pub push_list-requires-clause-within : goal.push_list-requires-clause-within
push_list-requires-clause-within c =
    (order-read c.requires.order (omega arith) c.id-item.is).1

pub push_list-requires-clause-inside : goal.push_list-requires-clause-inside
push_list-requires-clause-inside c =
    let rest = rw (c.deref.ensures.value, sym c.range.ensures) at c.rest-rest.ensures.rest in
    (rest-above c.requires.shallower c.loop-id.invariant.room (push_list-requires-clause-within c) rest).0

pub push_list-requires-clause-above : goal.push_list-requires-clause-above
push_list-requires-clause-above c =
    let rest = rw (c.deref.ensures.value, sym c.range.ensures) at c.rest-rest.ensures.rest in
    (rest-above c.requires.shallower c.loop-id.invariant.room (push_list-requires-clause-within c) rest).1

pub set-requires-clause-few : goal.set-requires-clause-few
set-requires-clause-few c =
    omega (arith, c.loop-id.invariant.few, order-short c.requires.order, c.args.trie.now.few)

pub set-requires-clause-within : goal.set-requires-clause-within
set-requires-clause-within c =
    omega (arith, order-read c.requires.order (omega arith) c.id-item.is, c.loop-id.invariant.room.counted)

pub loop-id-preserved : goal.loop-id-preserved
loop-id-preserved c =
    let order = c.args.order.now in
    let k = c.loop-id.id-index in
    let lt : k < length order = omega arith in
    let h = order-read c.requires.order lt c.id-item.is in
    let rest = rw (c.deref.ensures.value, sym c.range.ensures) at c.rest-rest.ensures.rest in
    let room = c.loop-id.invariant.room in
    let above = rest-above c.requires.shallower room h.1 rest in
    rw c.in_ok-set.ensures.set
    (record {
      room = room-more room h.1 above.1 c.in_ok-range.ensures;
      known = λ m t leads.
          let s = stands-of t in
          lists-more s leads c.requires.shallower c.requires.order lt h.0 room rest c.in_ok-range.ensures
          (c.loop-id.invariant.known m t leads);
      few = omega (arith, c.in_ok-set.ensures.few, c.loop-id.invariant.few);
    })

pub returns-clause-links : goal.returns-clause-links
returns-clause-links c m t leads =
    let s = stands-of t in
    record {
      fails = leads;
      lists = lists-all s c.requires.order (omega arith) c.loop-id.invariant.room (c.loop-id.invariant.known m t leads);
    }

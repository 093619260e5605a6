-- A pass from the last pattern back makes the list of each state.
use Rattle.std.proofs.Common.{◌≡◌, ◌+◌, ◌-◌, ◌<◌, length, subst, sym, arith}
use Rattle.std.proofs.lemmas.List.{get_or_read}
use Rattle.ac_noncontiguous.specs.Links.Own.{AreOwnChains}
use Rattle.std.specs.Prelude.{Some, slice_get}
use Rattle.ac_noncontiguous.proofs.trie.OwnLemmas.{own-filled, own-skipped, own-more, own-read, none-read, end-within}
use Rattle.ac_noncontiguous.proofs.trie.Trie.own_patterns.Goals as goal

pub loop-from-init : goal.loop-from-init
loop-from-init c =
    let states : c.len.result ≡ length c.args.self.now.states.items = omega arith in
    let filled = c.in_ok-first.ensures.items_if_clones_equal (λ y same. same) in (
      omega arith,
      subst (λ n.
          AreOwnChains n c.args.self.now.ends.items c.len-len.result c.in_ok-first.first.items c.in_ok-next.next.items)
          states
          (own-filled (omega arith) filled (omega (arith, c.in_ok-next.ensures.len))),
    )

pub index-requires-in-Some : goal.index-requires-in-Some
index-requires-in-Some c =
    let id_in = end-within _ (c.loop-from.from - 1) c.args.self.now.placed (omega (arith, c.loop-from.invariant.0))
    c.index.ensures c.in-Some.is in
    omega (arith, id_in, c.as_usize-id.ensures.value, c.loop-from.invariant.1.lens.0)

pub index_mut-requires-in-Some : goal.index_mut-requires-in-Some
index_mut-requires-in-Some c =
    let id_in = end-within _ (c.loop-from.from - 1) c.args.self.now.placed (omega (arith, c.loop-from.invariant.0))
    c.index.ensures c.in-Some.is in
    omega (arith, id_in, c.as_usize-id.ensures.value, c.loop-from.invariant.1.lens.0)

pub loop-from-preserved : goal.loop-from-preserved
loop-from-preserved c =
    let from = c.loop-from.from - 1 in
    let ends = c.args.self.now.ends.items in
    let states = length c.args.self.now.states.items in
    let back : c.loop-from.from ≡ from + 1 = omega arith in
    let within : from < length ends = omega (arith, c.loop-from.invariant.0) in
    let o = subst (λ n. AreOwnChains states ends n c.loop-from.first.items c.loop-from.next.items) back
    c.loop-from.invariant.1 in
    (omega (arith, c.loop-from.invariant.0), own-skipped (none-read ends within c.index.ensures c.in_default.is) o)

pub loop-from-preserved-in-Some : goal.loop-from-preserved-in-Some
loop-from-preserved-in-Some c =
    let from = c.loop-from.from - 1 in
    let ends = c.args.self.now.ends.items in
    let states = length c.args.self.now.states.items in
    let first = c.loop-from.first.items in
    let back : c.loop-from.from ≡ from + 1 = omega arith in
    let within : from < length ends = omega (arith, c.loop-from.invariant.0) in
    let here = subst (λ i. (slice_get ends from ≡ Some (Some i))) (sym c.as_usize-id.ensures.value)
    (own-read ends within c.index.ensures c.in-Some.is) in
    let id_in = c.args.self.now.placed from c.as_usize-id.result here in
    let o = subst (λ n. AreOwnChains states ends n first c.loop-from.next.items) back c.loop-from.invariant.1 in
    let read = get_or_read first c.as_usize-id.result c.index-in-Some.result.now (omega (arith, id_in, o.lens.0))
    c.index-in-Some.ensures 0 in
    (omega (arith, c.loop-from.invariant.0), own-more here id_in read o)

-- The start comes first in breadth-first order, so the rest is all but the start.
use Rattle.std.proofs.Common.{◌≡◌, ◌-◌, ◌<◌, length, take, drop, subst, ap, ◌∙◌, arith, slice_index, length-drop}
use Rattle.std.proofs.lemmas.List.Elements.{Contains-get_or}
use Rattle.ac_noncontiguous.specs.Compiler.Numbering.{AreFirstNumbers}
use Rattle.ac_noncontiguous.proofs.compiler.PlacesLemmas.{order-short, order-start, order-rest, slice-rest, listed-rest, places-listed, last-listed, numbers-first}
use Rattle.ac_noncontiguous.proofs.compiler.RunLemmas.{places-runs}
use Rattle.ac_noncontiguous.proofs.compiler.numbering.Numbering.new.Goals as goal

pub list-requires-clause-within : goal.list-requires-clause-within
list-requires-clause-within c i within =
    let order = c.args.order.now in
    let rest = take (length order - 1) (drop 1 order) in
    let e = slice-rest order in
    let inside : i < length (drop 1 order) = omega (arith, ap length e) in
    let at : slice_index rest i ≡ slice_index (drop 1 order) i = ap (λ xs. slice_index xs i) e in
    let h = (order-rest c.args.trie.now.tree c.requires.order (slice_index (drop 1 order) i)).0
    (Contains-get_or (drop 1 order) i 0 inside) in
    omega (arith, h.1, c.requires.links.ranges)

pub list-requires-clause-few : goal.list-requires-clause-few
list-requires-clause-few c =
    let order = c.args.order.now in
    omega (
      arith,
      ap length (slice-rest order),
      length-drop 1 order,
      order-short c.requires.order,
      (order-start c.args.trie.now.tree c.requires.order).0,
      c.args.trie.now.few,
    )

pub inverse-requires-clause-few : goal.inverse-requires-clause-few
inverse-requires-clause-few c =
    let p = places-listed c.args.trie.now.tree c.requires.order (listed-rest c.args.order.now c.in_ok-at.ensures) in
    omega (arith, ap length c.deref.ensures.value, p.counted, c.args.trie.now.few)

pub inverse-requires-clause-some : goal.inverse-requires-clause-some
inverse-requires-clause-some c =
    let p = places-listed c.args.trie.now.tree c.requires.order (listed-rest c.args.order.now c.in_ok-at.ensures) in
    omega (arith, ap length c.deref.ensures.value, p.starts.1)

pub inverse-requires-clause-within : goal.inverse-requires-clause-within
inverse-requires-clause-within c i within =
    let p = places-listed c.args.trie.now.tree c.requires.order (listed-rest c.args.order.now c.in_ok-at.ensures) in
    let same = c.deref.ensures.value in
    let at : slice_index c.deref.result.now i ≡ slice_index c.in_ok-at.field-0.at.items i =
    ap (λ xs. slice_index xs i) same in
    omega (arith, p.within i (omega (arith, ap length same)), c.len.ensures)

pub last_match-requires-clause-within : goal.last_match-requires-clause-within
last_match-requires-clause-within c =
    let p = places-listed c.args.trie.now.tree c.requires.order (listed-rest c.args.order.now c.in_ok-at.ensures) in
    (omega (arith, p.starts.0), omega (arith, p.starts.1, p.counted, c.args.trie.now.few))

pub returns : goal.returns
returns c =
    let states = length c.args.trie.now.states.items in
    let places = c.in_ok-at.field-0 in
    let listed = listed-rest c.args.order.now c.in_ok-at.ensures in
    let p = places-listed c.args.trie.now.tree c.requires.order listed in
    let first = subst (λ xs. AreFirstNumbers xs 2 c.in_ok-of.of.items) c.deref.ensures.value c.in_ok-of.ensures.1 in
    record {
      made = record {
        places = p;
        numbers = numbers-first c.args.trie.now.tree.start.0 p (c.in_ok-of.ensures.0 ∙ c.len.ensures) first;
      };
      matches = last-listed c.args.order.now listed c.last_match.ensures.yes c.last_match.ensures.no;
      runs = places-runs c.args.trie.now.tree c.requires.order listed;
    }

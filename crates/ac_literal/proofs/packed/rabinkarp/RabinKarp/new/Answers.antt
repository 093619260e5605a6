-- There is one entry for each number of the order so far.
use Rattle.std.proofs.Common.{◌≡◌, ◌+◌, ◌<◌, ◌≤◌, get_or, length, take, ap, sym, refl, ◌∙◌, arith}
use Rattle.std.proofs.lemmas.List.{get_or_read, length-take-le, length-set, length_push}
use Rattle.ac_literal.specs.Packed.RabinKarp.{hash_of, IsOrder}
use Rattle.ac_literal.proofs.packed.PatternLemmas.{shortest-least, shortest-full}
use Rattle.ac_literal.proofs.packed.TableLemmas.{AreEntries-none, AreEntries-push}
use Rattle.ac_literal.proofs.packed.rabinkarp.RabinKarp.new.Goals as goal

pub loop-number-init : goal.loop-number-init
loop-number-init c =
    rw c.in_ok-entries.ensures.items (record { entries = AreEntries-none; count = omega arith; heads = omega arith })

pub slice_bounds-hash_of-end : goal.slice_bounds-hash_of-end
slice_bounds-hash_of-end c =
    let order = c.deref-number-items.result.now in
    let ordered : IsOrder c.args.kind c.args.patterns.now (length c.args.patterns.now) order =
    rw c.deref-number-items.ensures.value c.in_ok-order.ensures in
    let number =
    get_or_read order c.loop-number.number-index c.number-item.result c.loop-number-test.true c.number-item.is 0 in
    let inside : c.number-item.result < length c.args.patterns.now =
    omega (arith, ordered.below c.loop-number.number-index (omega (arith, ordered.len))) in
    let short : c.min-hash_len.result
    ≤ length c.get.result.now = rw c.get.ensures
    (omega (
      arith,
      c.min-hash_len.ensures,
      c.minimum_len.ensures,
      shortest-least c.args.patterns.now c.number-item.result inside,
    )) in
    sym (length-take-le c.min-hash_len.result c.get.result.now short)

pub loop-number-preserved : goal.loop-number-preserved
loop-number-preserved c =
    let order = c.deref-number-items.result.now in
    let old = c.loop-number.invariant in
    let number : c.number-item.result ≡ get_or order c.loop-number.number-index 0 =
    get_or_read order c.loop-number.number-index c.number-item.result c.loop-number-test.true c.number-item.is 0 in
    let place = ap (λ k. get_or order k 0) (sym old.count) in
    let hash = c.hash_of-hash.ensures ∙ ap (λ p. hash_of (take c.min-hash_len.result p)) c.get.ensures in
    let count : c.len-in-loop-number.result ≡ length c.loop-number.entries.items + 1 =
    omega (arith, c.len-in-loop-number.ensures, c.in_ok-push.ensures.len, c.loop-number.entries.ok.0) in
    rw (count, c.in_ok-push.ensures.items, c.bucket_of-bucket.ensures.value)
    (let pushed = AreEntries-push c.args.patterns.now c.min-hash_len.result order c.loop-number.heads
    c.loop-number.entries.items old.entries old.heads c.hash_of-hash.result c.number-item.result (number ∙ place)
    hash in
    record {
      entries = pushed;
      count = length_push _ _ ∙ ap (λ n. n + 1) old.count;
      heads = length-set _ _ _ ∙ old.heads;
    })

pub power_of-requires : goal.power_of-requires
power_of-requires c =
    omega (arith, c.min-hash_len.ensures, c.minimum_len.ensures, shortest-full c.args.patterns.now c.requires.full)

pub returns : goal.returns
returns c =
    let patterns = c.args.patterns.now in
    let order = c.deref-number-items.result.now in
    let ordered : IsOrder c.args.kind patterns (length patterns) order =
    rw c.deref-number-items.ensures.value c.in_ok-order.ensures in
    record {
      table = record {
        some = omega (arith, c.min-hash_len.ensures, c.minimum_len.ensures, shortest-full patterns c.requires.full);
        short = λ number h.
            omega (arith, c.min-hash_len.ensures, c.minimum_len.ensures, shortest-least patterns number h);
        power = c.power_of.ensures;
        order = order;
        ordered = ordered;
        count = omega (arith, c.loop-number.invariant.count, ordered.len);
        entries = c.loop-number.invariant.entries;
      };
      kind = refl;
      few = omega (arith, c.min-hash_len.ensures);
    }

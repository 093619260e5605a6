-- The first number that is preferred to the new one ends the search.
use Rattle.std.proofs.Common.{◌≡◌, get_or, sym, ap, ◌∙◌, inl, inr, arith}
use Rattle.std.proofs.lemmas.Bool.{cases_lt}
use Rattle.std.proofs.lemmas.List.{get_or_read}
use Rattle.ac_literal.specs.Packed.RabinKarp.{IsNoLater}
use Rattle.ac_literal.proofs.packed.PreferenceLemmas.{place-found, no_later-from, less-from_test, test-from_less}
use Rattle.ac_literal.proofs.packed.pattern.Patterns.place_of.Goals as goal

pub returns-then-is_lt : goal.returns-then-is_lt
returns-then-is_lt c =
    let other : c.index-order-i.result ≡ get_or c.args.order.now c.loop-i.i 0 =
    get_or_read c.args.order.now c.loop-i.i c.index-order-i.result c.loop-i-test.true c.index-order-i.is 0 in
    let less = less-from_test c.compare.result (sym c.is_lt.ensures ∙ c.if-is_lt.true) in
    place-found c.requires.order c.loop-i-test.true c.loop-i.invariant
    (rw (← other) (λ at. sym (c.compare.ensures at) ∙ less))

pub loop-i-preserved : goal.loop-i-preserved
loop-i-preserved c = λ i h.
    let other : c.index-order-i.result ≡ get_or c.args.order.now c.loop-i.i 0 =
    get_or_read c.args.order.now c.loop-i.i c.index-order-i.result c.loop-i-test.true c.index-order-i.is 0 in
    let here : IsNoLater c.args.kind c.args.self.now c.args.number c.index-order-i.result =
    no_later-from c.args.kind c.args.self.now c.index-order-i.result c.args.number
    (λ at less. test-from_less (sym c.is_lt.ensures ∙ c.if-is_lt.false) (c.compare.ensures at ∙ less)) in
    elim (cases_lt i c.loop-i.i) [
      | inl before ↦ c.loop-i.invariant i before
      | inr behind ↦ let same : i ≡ c.loop-i.i = omega arith in
          rw (ap (λ k. get_or c.args.order.now k 0) same, ← other) here
    ]

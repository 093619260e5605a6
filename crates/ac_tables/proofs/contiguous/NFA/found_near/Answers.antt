-- The start is found, then the next states of one state after another.
use Rattle.std.proofs.Common.{◌≡◌, ◌<◌, ◌+◌, [], ◌∷◌, ◌++◌, length, inl, inr, ap, sym, subst, ◌∙◌, arith}
use Rattle.ac_tables.specs.Contiguous.NearReads.{IsFoundTo}
use Rattle.ac_tables.proofs.contiguous.NearPlacesLemmas.{found-all, found-deeper, found-on, found-start, within-met}
use Rattle.ac_tables.proofs.contiguous.NFA.found_near.Goals as goal
use Rattle.ac_tables.proofs.contiguous.NFA.found_near.Goals.{then-loop-at-test+else-depth-lt-DEEPEST, else-loop-at-test}

pub loop-at-init : goal.loop-at-init
loop-at-init c =
    let a = c.args.self.now in
    subst (IsFoundTo a c.args.most 0 1 0)
    (sym (c.in_ok-push.ensures.items ∙ ap (λ l. l ++ a.table.start ∷ []) c.new-found.ensures.items))
    (found-start a c.args.most c.requires.some)

pub push_after-requires-clause-met : goal.push_after-requires-clause-met
push_after-requires-clause-met c =
    let h = c.loop-at.invariant in
    let less : c.loop-at.at < length c.loop-at.found.items = omega (arith, c.len.ensures, c.loop-at-test.true) in
    within-met c.args.self.now c.loop-at.depth _ (h.by.near c.loop-at.at (h.left less))

pub loop-at-preserved-then-at-next_depth : goal.loop-at-preserved-then-at-next_depth
loop-at-preserved-then-at-next_depth c =
    let less : c.loop-at.at < length c.loop-at.found.items = omega (arith, c.len.ensures, c.loop-at-test.true) in
    let above = c.if-depth-lt-DEEPEST.true in
    let len : c.len-next_depth.result ≡ length c.push_after.new.found.items = omega (arith, c.len-next_depth.ensures) in
    let depth = c.saturating_add-depth.result in
    let deeper : depth ≡ c.loop-at.depth + 1 = omega (arith, c.saturating_add-depth.ensures, above) in
    subst (λ n. IsFoundTo c.args.self.now c.args.most (c.loop-at.at + 1) n depth c.push_after.new.found.items)
    (sym len)
    (subst (λ d. IsFoundTo c.args.self.now c.args.most (c.loop-at.at + 1) (length c.push_after.new.found.items) d
    c.push_after.new.found.items) (sym deeper)
    (found-deeper c.args.self.now c.args.most c.loop-at.at c.loop-at.next_depth c.loop-at.depth c.loop-at.found.items
    c.push_after.new.found.items c.loop-at.invariant less above c.in_ok-push_after.ensures c.if-at-next_depth.true))

pub loop-at-preserved : goal.loop-at-preserved
loop-at-preserved c =
    let less : c.loop-at.at < length c.loop-at.found.items = omega (arith, c.len.ensures, c.loop-at-test.true) in
    found-on c.args.self.now c.args.most c.loop-at.at c.loop-at.next_depth c.loop-at.depth c.loop-at.found.items
    c.push_after.new.found.items c.loop-at.invariant less c.if-depth-lt-DEEPEST.true c.in_ok-push_after.ensures
    c.if-at-next_depth.false

pub returns : goal.returns
returns c =
    found-all c.args.self.now c.args.most c.loop-at.at c.loop-at.next_depth c.loop-at.depth c.loop-at.found.items
    c.loop-at.invariant
    (elim c.loop-at-test.branch [
      | then-loop-at-test+else-depth-lt-DEEPEST w ↦ inr w.if-depth-lt-DEEPEST.false
      | else-loop-at-test w ↦ inl (omega (arith, c.len.ensures, w.loop-at-test.false))
    ])

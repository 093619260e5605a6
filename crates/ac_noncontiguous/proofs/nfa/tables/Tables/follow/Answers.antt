use Rattle.std.proofs.Common.{◌∙◌, sym, subst, ap, arith}
use Rattle.ac_noncontiguous.specs.Nfa.{kept_of}
use Rattle.ac_noncontiguous.specs.Nfa.Lookups.{IsKept, StepsTo}
use Rattle.ac_noncontiguous.proofs.nfa.NextLemmas.{kept-fail, kept-shallower, followed-none, followed-more, followed-end}
use Rattle.ac_noncontiguous.proofs.nfa.OverLemmas.{followed-over}
use Rattle.ac_noncontiguous.proofs.nfa.tables.Tables.follow.Goals as goal

pub loop-next-init : goal.loop-next-init
loop-next-init c = followed-none c.requires.visited c.requires.stuck

pub step_by_row-requires : goal.step_by_row-requires
step_by_row-requires c =
    subst (IsKept c.args.self.now) (sym c.fail-from.ensures) (kept-fail c.loop-next.invariant.visited.0)

pub step-next-requires : goal.step-next-requires
step-next-requires c =
    subst (IsKept c.args.self.now) (sym c.fail-from.ensures) (kept-fail c.loop-next.invariant.visited.0)

pub returns-in-Some : goal.returns-in-Some
returns-in-Some c =
    followed-over c.loop-next.invariant c.fail-from.ensures c.look.ensures c.in-Some.ensures

pub returns-then-as_usize-ne-FAIL : goal.returns-then-as_usize-ne-FAIL
returns-then-as_usize-ne-FAIL c =
    followed-end c.loop-next.invariant c.fail-from.ensures c.look.ensures c.step-next.ensures
    (λ e. c.if-as_usize-ne-FAIL.true (c.as_usize.ensures.value ∙ e))

pub loop-next-smaller : goal.loop-next-smaller
loop-next-smaller c =
    let less = kept-shallower c.loop-next.invariant.visited c.loop-next.invariant.stuck in
    let at = ap (λ i. (kept_of c.args.self.now.states.items i).depth) c.fail-from.ensures in
    omega (arith, less, at)

pub loop-next-preserved : goal.loop-next-preserved
loop-next-preserved c =
    followed-more c.loop-next.invariant c.fail-from.ensures c.look.ensures
    (subst (StepsTo c.args.self.now c.fail-from.result c.args.byte)
    (sym c.as_usize.ensures.value ∙ c.if-as_usize-ne-FAIL.false) c.step-next.ensures)

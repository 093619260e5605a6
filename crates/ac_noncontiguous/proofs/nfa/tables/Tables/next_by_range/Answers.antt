use Rattle.std.proofs.Common.{◌∙◌, ap, sym, refl}
use Rattle.ac_input.specs.Input.{is_anchored}
use Rattle.ac_noncontiguous.proofs.nfa.NextLemmas.{leads-straight, leads-to_dead, leads-followed}
use Rattle.ac_noncontiguous.proofs.nfa.tables.Tables.next_by_range.Goals as goal

pub returns-then-as_usize-ne-FAIL : goal.returns-then-as_usize-ne-FAIL
returns-then-as_usize-ne-FAIL c =
    leads-straight c.step-next.ensures
    (λ e. c.if-as_usize-ne-FAIL.true (c.as_usize.ensures.value ∙ e)) c.look.ensures

pub returns-in-No : goal.returns-in-No
returns-in-No c =
    leads-followed (is_anchored c.args.anchored) (ap is_anchored c.in-No.is) c.look.ensures c.follow.ensures

pub returns-in-Yes : goal.returns-in-Yes
returns-in-Yes c =
    leads-to_dead (is_anchored c.args.anchored) (ap is_anchored c.in-Yes.is) c.step-next.ensures
    (sym c.as_usize.ensures.value ∙ c.if-as_usize-ne-FAIL.false) refl c.look.ensures

use Rattle.std.proofs.Common.{◌∙◌, ap, sym, subst, refl}
use Rattle.ac_input.specs.Input.{is_anchored}
use Rattle.ac_tables.specs.Contiguous.Reads.{IsMet}
use Rattle.ac_tables.specs.Contiguous.WordReads.{ByteLeadsTo}
use Rattle.ac_tables.proofs.contiguous.FollowLemmas.{met-place, leads-straight, leads-to_dead, leads-followed}
use Rattle.ac_tables.proofs.contiguous.NFA.next.Goals as goal

pub step-next-requires : goal.step-next-requires
step-next-requires c = met-place c.args.self.now (is_anchored c.args.anchored) c.args.sid c.requires

pub returns-then-as_u32-ne-NOWHERE : goal.returns-then-as_u32-ne-NOWHERE
returns-then-as_u32-ne-NOWHERE c =
    leads-straight c.args.self.now (is_anchored c.args.anchored) c.args.sid c.args.byte c.step-next.result _ _
    c.ranges.byte.fits c.step-next.ensures (λ e. c.if-as_u32-ne-NOWHERE.true (c.as_u32.ensures.value ∙ e))
    c.look.ensures

pub follow-requires : goal.follow-requires
follow-requires c =
    let a = c.args.self.now in
    record {
      met = subst (λ anchored. IsMet a anchored c.args.sid) (ap is_anchored c.in-No.is) c.requires;
      stuck = subst (ByteLeadsTo a.table c.args.sid c.args.byte)
          (sym c.as_u32.ensures.value ∙ c.if-as_u32-ne-NOWHERE.false) c.step-next.ensures;
    }

pub returns-in-No : goal.returns-in-No
returns-in-No c =
    leads-followed c.args.self.now (is_anchored c.args.anchored) c.args.sid c.args.byte c.follow.result _ _ _
    (ap is_anchored c.in-No.is) c.look.ensures c.follow.ensures

pub returns-in-Yes : goal.returns-in-Yes
returns-in-Yes c =
    leads-to_dead c.args.self.now (is_anchored c.args.anchored) c.args.sid c.args.byte c.step-next.result 0 _ _
    (ap is_anchored c.in-Yes.is) c.ranges.byte.fits c.step-next.ensures
    (sym c.as_u32.ensures.value ∙ c.if-as_u32-ne-NOWHERE.false) refl c.look.ensures

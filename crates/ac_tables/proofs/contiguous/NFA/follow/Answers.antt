use Rattle.std.proofs.Common.{false, refl, ◌∙◌, sym, subst, arith}
use Rattle.ac_automaton.proofs.automaton.LinkedLemmas.{followed-none, followed-more, followed-end, followed-few}
use Rattle.ac_tables.specs.Contiguous.Reads.{contiguous_dictionary, IsLaidOut}
use Rattle.ac_tables.specs.Contiguous.WordReads.{ByteLeadsTo}
use Rattle.ac_tables.proofs.contiguous.FollowLemmas.{met-place, met-fail, laid-numbers, laid-edge, laid-failure}
use Rattle.ac_tables.proofs.contiguous.NFA.follow.Goals as goal

pub loop-from-init : goal.loop-from-init
loop-from-init c =
    let a = c.args.self.now in
    record {
      met = c.requires.met;
      stuck = c.requires.stuck;
      followed = followed-none (contiguous_dictionary a) (IsLaidOut a) a.table.start c.args.sid c.args.byte 1
          c.args.steps.now (laid-edge a false c.args.sid c.args.byte 1 c.ranges.byte.fits c.requires.stuck) refl;
    }

pub fail-from-requires : goal.fail-from-requires
fail-from-requires c = c.loop-from.invariant.met

pub step-next-requires : goal.step-next-requires
step-next-requires c =
    let a = c.args.self.now in
    met-place a false c.fail-from.result
    (met-fail a c.loop-from.from c.fail-from.result c.loop-from.invariant.met c.fail-from.ensures)

pub returns-then-as_u32-ne-NOWHERE : goal.returns-then-as_u32-ne-NOWHERE
returns-then-as_u32-ne-NOWHERE c =
    let a = c.args.self.now in
    followed-end (contiguous_dictionary a) (IsLaidOut a) a.table.start c.args.sid c.args.byte c.loop-from.from
    c.fail-from.result c.step-next.result _ _ _ c.loop-from.invariant.followed (laid-numbers a)
    (laid-failure a c.loop-from.from c.fail-from.result c.fail-from.ensures) c.look.ensures
    (laid-edge a false c.fail-from.result c.args.byte c.step-next.result c.ranges.byte.fits c.step-next.ensures)
    (λ e. c.if-as_u32-ne-NOWHERE.true (c.as_u32.ensures.value ∙ e))

pub loop-from-smaller : goal.loop-from-smaller
loop-from-smaller c =
    let a = c.args.self.now in
    let h = c.loop-from.invariant.followed in
    let few = followed-few h (laid-numbers a) c.requires.met in
    let done = h.counted.looked in
    let one = c.look.ensures.looked in
    omega (arith, few, done, one)

pub loop-from-preserved : goal.loop-from-preserved
loop-from-preserved c =
    let a = c.args.self.now in
    let nothing = sym c.as_u32.ensures.value ∙ c.if-as_u32-ne-NOWHERE.false in
    record {
      met = met-fail a c.loop-from.from c.fail-from.result c.loop-from.invariant.met c.fail-from.ensures;
      stuck = subst (ByteLeadsTo a.table c.fail-from.result c.args.byte) nothing c.step-next.ensures;
      followed = followed-more (contiguous_dictionary a) (IsLaidOut a) a.table.start c.args.sid c.args.byte
          c.loop-from.from c.fail-from.result c.step-next.result _ _ _ c.loop-from.invariant.followed (laid-numbers a)
          (laid-failure a c.loop-from.from c.fail-from.result c.fail-from.ensures) c.look.ensures
          (laid-edge a false c.fail-from.result c.args.byte c.step-next.result c.ranges.byte.fits c.step-next.ensures)
          nothing;
    }

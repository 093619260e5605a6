-- The number is that of the next state, by a transition or by the failure.
use Rattle.std.proofs.Common.{◌∙◌, sym, arith}
use Rattle.ac_tables.proofs.contiguous.NearLemmas.{met-within}
use Rattle.ac_tables.proofs.contiguous.NearFillLemmas.{number-failed, number-straight}
use Rattle.ac_tables.proofs.contiguous.NFA.number_over.Goals as goal

pub returns-then-as_u32-eq-NOWHERE : goal.returns-then-as_u32-eq-NOWHERE
returns-then-as_u32-eq-NOWHERE c =
    number-failed c.args.self.now c.args.near.now c.args.place c.args.byte c.child-next.result c.args.failed
    c.requires.alone c.ranges.byte.fits c.child-next.ensures.leads
    (sym c.as_u32.ensures.value ∙ c.if-as_u32-eq-NOWHERE.true) c.requires.failed

pub number_of-requires : goal.number_of-requires
number_of-requires c =
    let within = met-within c.args.self.now c.child-next.result
    (c.child-next.ensures.met (λ e. c.if-as_u32-eq-NOWHERE.false (c.as_u32.ensures.value ∙ e))) in
    let room = c.requires.room in
    omega (arith, within, room)

pub returns : goal.returns
returns c =
    number-straight c.args.self.now c.args.near.now c.args.place c.args.byte c.child-next.result c.number_of.result
    c.requires.alone c.ranges.byte.fits c.child-next.ensures.leads
    (λ e. c.if-as_u32-eq-NOWHERE.false (c.as_u32.ensures.value ∙ e)) c.number_of.ensures

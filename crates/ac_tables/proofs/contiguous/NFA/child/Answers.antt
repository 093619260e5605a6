-- A search may come to the next state.
use Rattle.std.proofs.Common.{false}
use Rattle.ac_tables.proofs.contiguous.FollowLemmas.{met-place}
use Rattle.ac_tables.proofs.contiguous.NearFillLemmas.{met-step}
use Rattle.ac_tables.proofs.contiguous.NFA.child.Goals as goal

pub step-requires : goal.step-requires
step-requires c = met-place c.args.self.now false c.args.sid c.requires

pub returns-clause-met : goal.returns-clause-met
returns-clause-met c = λ some.
    met-step c.args.self.now c.args.sid c.args.byte c.step.result c.ranges.byte.fits c.requires c.step.ensures some

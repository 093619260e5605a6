use Rattle.ac_literal.proofs.packed.LaneLemmas.{set-lane, few-lanes}
use Rattle.ac_literal.proofs.packed.teddy.set_lanes.Goals as goal

pub returns-clause-set : goal.returns-clause-set
returns-clause-set c = set-lane c.args.lanes c.fits-lanes.0

pub returns-clause-few : goal.returns-clause-few
returns-clause-few c = few-lanes c.args.lanes c.fits-lanes.0

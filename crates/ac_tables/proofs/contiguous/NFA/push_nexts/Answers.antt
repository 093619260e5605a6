-- The state that is asked for its transitions is met.
use Rattle.std.proofs.Common.{false}
use Rattle.ac_tables.proofs.contiguous.FollowLemmas.{met-place}
use Rattle.ac_tables.proofs.contiguous.NFA.push_nexts.Goals as goal

pub edge_len-requires : goal.edge_len-requires
edge_len-requires c = met-place c.args.self.now false c.args.sid c.requires.met

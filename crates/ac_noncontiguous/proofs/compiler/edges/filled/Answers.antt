-- A list that repeats one element.
use Rattle.std.proofs.lemmas.List.{get_or-replicate}
use Rattle.ac_noncontiguous.proofs.compiler.edges.filled.Goals as goal

pub returns : goal.returns
returns c b within = get_or-replicate 256 b c.args.id 0 within

-- What is put is the place of the next state by the byte.
use Rattle.std.proofs.lemmas.Result.{IfOk-weaker}
use Rattle.ac_tables.proofs.contiguous.NearPlacesLemmas.{nexts-child}
use Rattle.ac_tables.proofs.contiguous.NFA.push_child.Goals as goal

pub returns : goal.returns
returns c =
    IfOk-weaker c.push_found.result _ _
    (λ _ put. nexts-child c.args.self.now c.args.most c.args.sid c.args.byte c.child-next.result c.args.found.now.items
    c.push_found.new.found.items c.ranges.byte.fits c.child-next.ensures.leads put) c.push_found.ensures

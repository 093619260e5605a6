-- The state is that at the place.
use Rattle.std.proofs.Common.{false, sym, subst}
use Rattle.std.specs.Prelude.{IfOk}
use Rattle.std.proofs.lemmas.List.{get_or_read}
use Rattle.ac_tables.specs.Contiguous.NearReads.{AreNextsFound}
use Rattle.ac_tables.specs.Contiguous.Reads.{IsMet}
use Rattle.ac_tables.proofs.contiguous.NFA.push_after.Goals as goal

pub push_nexts-requires-clause-met : goal.push_nexts-requires-clause-met
push_nexts-requires-clause-met c =
    let read = get_or_read c.args.found.now.items c.args.at c.index-sid.result.now c.requires.within c.index-sid.ensures 0 in
    subst (IsMet c.args.self.now false) (sym read) c.requires.met

pub returns : goal.returns
returns c =
    let old = c.args.found.now.items in
    let new = c.push_nexts.new.found.items in
    let read = get_or_read old c.args.at c.index-sid.result.now c.requires.within c.index-sid.ensures 0 in
    subst (λ sid. IfOk c.push_nexts.result (λ _. AreNextsFound c.args.self.now c.args.most sid old new))
    read c.push_nexts.ensures

-- The start is near, and so are the places that were found, in any order.
use Rattle.std.proofs.Common.{◌++◌, [], ◌∷◌, ap, sym, subst, ◌∙◌}
use Rattle.ac_tables.specs.Contiguous.NearReads.{AreFound, ArePlacesNear}
use Rattle.ac_tables.proofs.contiguous.NearPlacesLemmas.{near-start, found-sorted}
use Rattle.ac_tables.proofs.contiguous.NFA.places_near.Goals as goal

pub push_rising-requires-clause-found : goal.push_rising-requires-clause-found
push_rising-requires-clause-found c =
    subst (AreFound c.args.self.now c.args.most) (sym c.deref.ensures.value)
    (found-sorted c.args.self.now c.args.most c.in_ok-found.found.items _ c.sort_unstable.ensures.permutation
    c.in_ok-found.ensures)

pub push_rising-requires-clause-near : goal.push_rising-requires-clause-near
push_rising-requires-clause-near c =
    let a = c.args.self.now in
    subst (ArePlacesNear a c.args.most)
    (sym (c.in_ok-push.ensures.items ∙ ap (λ l. l ++ a.table.start ∷ []) c.in_ok-places.ensures.items))
    (near-start a c.args.most c.requires.some)

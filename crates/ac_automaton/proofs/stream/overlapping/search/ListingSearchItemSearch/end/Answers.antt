-- The bytes of the last read reach to the end of what was read.
use Rattle.std.proofs.Common.{◌≡◌, ◌+◌, ap, arith, length, subst}
use Rattle.std.specs.List.{concat}
use Rattle.std.proofs.lemmas.List.{length-drop, length-take-le}
use Rattle.ac_automaton.specs.Stream.{read_by}
use Rattle.ac_automaton.proofs.stream.overlapping.search.ListingSearchItemSearch.end.Goals as goal

pub returns : goal.returns
returns g c =
    let i = c.self.inside in
    let inv = c.self.invariant in
    let held = ap length inv.1.bytes in
    let fits = inv.1.fits in
    let filled = length-take-le i.filled i.bytes.items (omega arith) in
    let left = length-drop i.place.from (concat i.pieces.items) in
    let order = inv.0.kept.1 in
    let within = inv.0.ordered.1 in
    subst (λ s. i.place.from + i.filled ≡ length (read_by s)) c.self.view_is (omega arith)

-- The first entries of the buffer are the items returned so far. As long as there are none, the search is unchanged;
-- after that a listing has passed the place where it stood.
use Rattle.std.proofs.Common.{◌≡◌, ◌≢◌, List, []}
use Rattle.ac_input.specs.Occurrence.{Occurrence}
use Rattle.ac_automaton.specs.Stream.{StreamCounts}
use Rattle.ac_c.specs.Searching.{AreShown, Returns}
use Rattle.ac_c.proofs.searching.StreamLemmas.{HasPassed}
use Rattle.ac_c.proofs.searching.fill.Given as goal

abbrev pub invariant-loop-at : goal.invariant-loop-at
invariant-loop-at g l =
    let progress = g.S.PieceSearch.progress in
    (os : List Occurrence) × Returns (progress l.fn.search) (progress l.search) os × AreShown os l.fn.out l.out l.at
    × (os ≡ [] → progress l.search ≡ progress l.fn.search)
    × (os ≢ [] → HasPassed (progress l.fn.search) (progress l.search))
    × StreamCounts (progress l.fn.search) (progress l.search) l.fn.steps l.steps

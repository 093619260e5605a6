use Rattle.std.proofs.Common.{ℕ, List}
use Rattle.ac_input.specs.declared.search.Anchored.TheVariants.{No}
use Rattle.ac_input.specs.Best.{IsLeast}
use Rattle.ac_automaton.specs.Words.{IsWindowOf, StandsForWords}
use Rattle.ac_automaton.proofs.words.WordPlaceLemmas.{SeenFirst}
use Rattle.ac_automaton.proofs.words.best_at.Given as goal

abbrev pub invariant-loop-index : goal.invariant-loop-index
invariant-loop-index g l =
    let a = l.automaton in
    let m = (g.A.Automaton.built a).dictionary in
    (x : List ℕ) → IsWindowOf l.window x
    → StandsForWords m (g.A.Automaton.Reaches a No) l.window.from x l.place
    → IsLeast l.place.kind (SeenFirst m x l.place.last l.place.at (g.A.Automaton.matches a l.place.sid) l.index) l.best

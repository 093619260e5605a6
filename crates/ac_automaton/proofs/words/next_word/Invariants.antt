use Rattle.std.proofs.Common.{◌≡◌, ◌+◌, ◌-◌, ◌≤◌, List, ℕ, false, length}
use Rattle.ac_input.specs.declared.search.Anchored.TheVariants.{No}
use Rattle.ac_automaton.specs.Words.{IsWindowOf, PaysForWords, StandsForWords}
use Rattle.ac_automaton.proofs.words.next_word.Given as goal

-- it stands right, and goes on from where it last began anew; at the end of an open window it hasn't gone on
abbrev pub invariant-loop-place : goal.invariant-loop-place
invariant-loop-place g l =
    let a = l.automaton in
    let m = (g.A.Automaton.built a).dictionary in
    ((x : List ℕ) → IsWindowOf l.window x → StandsForWords m (g.A.Automaton.Reaches a No) l.window.from x l.fn.place
    → StandsForWords m (g.A.Automaton.Reaches a No) l.window.from x l.place)
    × (l.place ≡ record l.fn.place { sid = l.place.sid; at = l.place.at; best = l.place.best })
    × (l.fn.place.at ≤ l.place.at)
    × ((x : List ℕ) → IsWindowOf l.window x → StandsForWords m (g.A.Automaton.Reaches a No) l.window.from x l.fn.place
    → PaysForWords (g.A.Automaton.built a) x l.fn.place.last l.fn.place.at l.place.at l.fn.steps l.steps)
    × (l.window.closed ≡ false → l.fn.place.at ≡ l.window.from + length l.window.bytes.now → l.place ≡ l.fn.place)

abbrev pub decreases-loop-place : goal.decreases-loop-place
decreases-loop-place g l = l.end - l.place.at

use Rattle.std.proofs.Common.{◌≡◌, ◌-◌, List, ℕ}
use Rattle.ac_input.specs.Occurrence.{Occurrence}
use Rattle.ac_automaton.specs.ListedWords.{StandsInWindow}
use Rattle.ac_automaton.proofs.words.listed.next_told.Given as goal

-- what was looked at was no whole word, so it stands right with as much given as before
abbrev pub invariant-loop-place : goal.invariant-loop-place
invariant-loop-place g l =
    ((x : List ℕ) (given : List Occurrence) → StandsInWindow g.A.Automaton l.automaton l.window x given l.fn.place
    → StandsInWindow g.A.Automaton l.automaton l.window x given l.place)
    × (l.place ≡ record l.fn.place { index = l.place.index })

abbrev pub decreases-loop-place : goal.decreases-loop-place
decreases-loop-place g l = l.len - l.place.index

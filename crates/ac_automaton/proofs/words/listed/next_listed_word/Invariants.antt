use Rattle.std.proofs.Common.{◌≤◌, ◌-◌, List, ℕ}
use Rattle.ac_input.specs.Occurrence.{Occurrence}
use Rattle.ac_automaton.specs.ListedWords.{PaysForListed, StandsInWindow}
use Rattle.ac_automaton.proofs.words.listed.next_listed_word.Given as goal

-- nothing more was given, so it stands right with as much given as before
abbrev pub invariant-loop-place : goal.invariant-loop-place
invariant-loop-place g l =
    ((x : List ℕ) (given : List Occurrence) → StandsInWindow g.A.Automaton l.automaton l.window x given l.fn.place
    → StandsInWindow g.A.Automaton l.automaton l.window x given l.place)
    × (l.fn.place.at ≤ l.place.at)
    × PaysForListed g.A.Automaton l.automaton l.window l.fn.place l.place l.fn.steps l.steps

abbrev pub decreases-loop-place : goal.decreases-loop-place
decreases-loop-place g l = l.end - l.place.at

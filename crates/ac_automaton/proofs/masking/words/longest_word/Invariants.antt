-- None of the entries that were looked at is a whole word.
use Rattle.std.proofs.Common.{ℕ, List}
use Rattle.ac_input.specs.declared.search.Anchored.TheVariants.{No}
use Rattle.ac_automaton.specs.Masking.Words.{IsMaskPlace}
use Rattle.ac_automaton.specs.Words.{IsWindowOf}
use Rattle.ac_automaton.proofs.masking.words.WordMaskLemmas.{FirstAreNone}
use Rattle.ac_automaton.proofs.masking.words.longest_word.Given as goal

abbrev pub invariant-loop-index : goal.invariant-loop-index
invariant-loop-index g l =
    let a = l.automaton in
    (x : List ℕ) → IsWindowOf l.window x → IsMaskPlace (g.A.Automaton.Reaches a No) x l.place
    → FirstAreNone (g.A.Automaton.built a).dictionary x l.place.at (g.A.Automaton.matches a l.place.sid) l.index

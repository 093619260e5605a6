-- The words that end before the place where the walk stands are masked.
use Rattle.std.proofs.Common.{◌-◌, ◌≤◌, ℕ, List}
use Rattle.ac_input.specs.declared.search.Anchored.TheVariants.{No}
use Rattle.ac_automaton.specs.Masking.{IsMaskedStretch}
use Rattle.ac_automaton.specs.Masking.Words.{CostsReading, HasMaskedWords, IsMaskPlace}
use Rattle.ac_automaton.specs.Words.{IsWindowOf}
use Rattle.ac_automaton.proofs.masking.words.mask_words_from.Given as goal

abbrev pub invariant-loop-place : goal.invariant-loop-place
invariant-loop-place g l = record {
  further : l.fn.place.at ≤ l.place.at;
  last : IsMaskedStretch l.mask l.masked (l.place.at - l.window.from) l.last;
  has : (x : List ℕ) → IsWindowOf l.window x
      → HasMaskedWords (g.A.Automaton.built l.automaton).dictionary (g.A.Automaton.Reaches l.automaton No) l.mask
      l.window.from l.fn.place.at x l.fn.place l.fn.masked
      → HasMaskedWords (g.A.Automaton.built l.automaton).dictionary (g.A.Automaton.Reaches l.automaton No) l.mask
      l.window.from l.place.at x l.place l.masked;
  cost : (x : List ℕ) → IsWindowOf l.window x → IsMaskPlace (g.A.Automaton.Reaches l.automaton No) x l.fn.place
      → IsMaskPlace (g.A.Automaton.Reaches l.automaton No) x l.place
      × CostsReading (g.A.Automaton.built l.automaton) x l.fn.place.at l.place.at l.fn.steps l.steps;
}

abbrev pub decreases-loop-place : goal.decreases-loop-place
decreases-loop-place g l = l.end - l.place.at

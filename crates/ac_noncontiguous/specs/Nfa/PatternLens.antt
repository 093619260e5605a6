-- How long the patterns of an automaton are.
use Rattle.std.specs.Prelude.{◌≡◌, ℕ, ◌≤◌, map, List, length, slice_get, Some}
use Rattle.ac_input.specs.Number.{greatest_number}
use Rattle.ac_input.specs.Work.{longest, shortest}

-- no pattern is longer than the greatest number
abbrev pub AreShort : List (List ℕ) → Type 0
AreShort patterns = (n : ℕ) (p : List ℕ) → slice_get patterns n ≡ Some p → length p ≤ greatest_number

-- what is stored for patterns: the length of each, the least length and the greatest
pub record AreLens (patterns : List (List ℕ)) (each : List ℕ) (least most : ℕ) : Type 0 where
  pub lens : each ≡ map (λ p. length p) patterns
  pub no_shorter : least ≡ shortest patterns
  pub no_longer : most ≡ longest patterns

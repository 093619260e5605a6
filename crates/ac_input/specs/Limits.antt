-- The limits of a build: how many patterns and states an automaton may have, and how long a pattern may be.
use Rattle.std.specs.Prelude.{◌≡◌, ◌≢◌, ◌↔◌, ℕ, ◌+◌, ◌<◌, ◌≤◌, List, [], ◌∷◌, ◌++◌, length, take, map, AllPairs, Contains}
use Rattle.ac_input.specs.Number.{greatest_number}
use Rattle.ac_input.specs.Dictionary.{Dictionary, IsPattern, IsEntered}
use Rattle.ac_input.specs.Laws.LiveLaws.{canonical}

-- the dictionary of the first n patterns
abbrev pub first_patterns : Dictionary → ℕ → Dictionary
first_patterns m n = record m { patterns = take n m.patterns }

-- the dictionary with one more pattern
abbrev pub with_pattern : Dictionary → List ℕ → Dictionary
with_pattern m p = record m { patterns = m.patterns ++ p ∷ [] }

-- a text in its canonical bytes, so that texts that are the same are equal
abbrev pub canonical_text : Dictionary → List ℕ → List ℕ
canonical_text m text = map (canonical m.pairing) text

-- a text of canonical bytes that is a non-empty prefix of an entered pattern
pub record IsPrefix (m : Dictionary) (text : List ℕ) : Type 0 where
  pub some : 0 < length text
  pub entered : (n : ℕ) × (p : List ℕ) × IsEntered m n p × (length text ≤ length p)
      × (text ≡ take (length text) (canonical_text m p))

-- how many states stand for no prefix of a pattern: the dead state, the fail state and the two start states
abbrev pub fixed_states : ℕ
fixed_states = 4

-- how many states an automaton has: the fixed ones, and one for each non-empty prefix of an entered pattern
abbrev pub HasStates : Dictionary → ℕ → Type 0
HasStates m states =
    (texts : List (List ℕ)) × AllPairs (λ s t. s ≢ t) texts × ((text : List ℕ) → Contains texts text ↔ IsPrefix m text)
    × (states ≡ length texts + fixed_states)

-- The dictionary passes no limit. Numbers begin at 0, so there may be one more pattern or state than the greatest
-- number.
pub record IsWithinLimits (m : Dictionary) : Type 0 where
  pub patterns : length m.patterns ≤ greatest_number + 1
  pub lengths : (n : ℕ) (p : List ℕ) → IsPattern m n p → length p ≤ greatest_number
  pub states : (states : ℕ) × HasStates m states × (states ≤ greatest_number + 1)

-- a limit of a build
pub data Limit : Type 0 where
  PatternNumber : Limit
  PatternLength : Limit
  StateNumber : Limit

-- The limit that one more pattern passes: its number is too great, or it is too long, or with it there are too many
-- states. Where several are passed, the first of these counts.
abbrev pub Passes : Dictionary → List ℕ → Limit → Type 0
Passes m p PatternNumber = greatest_number < length m.patterns
Passes m p PatternLength = (length m.patterns ≤ greatest_number) × (greatest_number < length p)
Passes m p StateNumber =
    (length m.patterns ≤ greatest_number) × (length p ≤ greatest_number)
    × ((states : ℕ) × HasStates (with_pattern m p) states × (greatest_number + 1 < states))

-- pattern n passes the limit, and no pattern before it passes one
pub record IsLimitAt (m : Dictionary) (n : ℕ) (limit : Limit) : Type 0 where
  pub before : IsWithinLimits (first_patterns m n)
  pub passed : (p : List ℕ) × IsPattern m n p × Passes (first_patterns m n) p limit

-- a pattern passes no limit if the dictionary with it is within all limits
abbrev pub WithinPassesNone : Type 0
WithinPassesNone =
    (m : Dictionary) (p : List ℕ) (limit : Limit) → IsWithinLimits (with_pattern m p) → ¬ Passes m p limit

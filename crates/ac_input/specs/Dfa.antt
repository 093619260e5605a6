-- Which searches an automaton of a start kind serves, and how large the table of a deterministic automaton is.
use Rattle.std.specs.Prelude.{◌≡◌, ℕ, ◌-◌, ◌*◌, ◌<◌, Bool}
use Rattle.ac_input.specs.declared.search.Anchored.{Anchored}
use Rattle.ac_input.specs.declared.search.Anchored.TheVariants as anchorings
use Rattle.ac_input.specs.declared.search.StartKind.{StartKind}
use Rattle.ac_input.specs.declared.search.StartKind.TheVariants as starts
use Rattle.ac_input.specs.Alphabet.{IsLeastPowerOfTwo}
use Rattle.ac_input.specs.Alphabet.Classes.{IsAlphabet}
use Rattle.ac_input.specs.Dictionary.{Dictionary}
use Rattle.ac_input.specs.Limits.{fixed_states, HasStates}
use Rattle.ac_input.specs.Number.{greatest_number}

-- an automaton of this start kind has a start for searches of this anchoring
abbrev pub Serves : StartKind → Anchored → Type 0
Serves starts.Both anchored = Unit {0}
Serves starts.Unanchored anchored = anchored ≡ anchorings.No
Serves starts.Anchored anchored = anchored ≡ anchorings.Yes

-- How many states a deterministic automaton has, where one with failure links has `states`. For both anchorings it has
-- each state twice, except those that stand for no prefix.
abbrev pub dfa_states : StartKind → ℕ → ℕ
dfa_states starts.Both states = 2 * states - fixed_states
dfa_states starts.Unanchored states = states
dfa_states starts.Anchored states = states

-- The number of the last state of a deterministic automaton. A state's number is the place of its row. A row has as
-- many entries as the least power of two that is enough for the classes.
abbrev pub IsDfaSize : Dictionary → StartKind → Bool → ℕ → Type 0
IsDfaSize m kind classes n =
    (states alphabet stride : ℕ) × HasStates m states × IsAlphabet m classes alphabet
    × IsLeastPowerOfTwo alphabet stride × (n ≡ (dfa_states kind states - 1) * stride)

-- the number of the last state is past the greatest number
abbrev pub IsDfaTooLarge : Dictionary → StartKind → Bool → Type 0
IsDfaTooLarge m kind classes = (n : ℕ) × IsDfaSize m kind classes n × (greatest_number < n)

-- a dictionary has only one size of table for each start kind, with byte classes or without
abbrev pub DfaSizesAreOneNumber : Type 0
DfaSizesAreOneNumber =
    (m : Dictionary) (kind : StartKind) (classes : Bool) (a b : ℕ) → IsDfaSize m kind classes a
    → IsDfaSize m kind classes b → a ≡ b

-- The patterns that end in a state.
use Rattle.std.specs.Prelude.{◌≡◌, ℕ, ◌+◌, ◌<◌, ◌≤◌, ◌++◌, List, length, slice_index, slice_get, Option, Some}
use Rattle.std.specs.List.{Contains}

-- the first pattern from `from` on that ends in state i; a number past the last pattern where there is none
pub record IsNextEnd (ends : List (Option ℕ)) (i from at : ℕ) : Type 0 where
  pub found : at < length ends → (from ≤ at) × (slice_get ends at ≡ Some (Some i))
  pub least : (n : ℕ) → from ≤ n → (slice_get ends n ≡ Some (Some i)) → at ≤ n

-- Among the patterns from `from` on: the first that ends in each state, and for each pattern the next that ends in its
-- state.
pub record AreOwnChains (states : ℕ) (ends : List (Option ℕ)) (from : ℕ) (first next : List ℕ) : Type 0 where
  pub lens : (length first ≡ states) × (length next ≡ length ends)
  pub firsts : (i : ℕ) → i < states → IsNextEnd ends i from (slice_index first i)
  pub nexts : (n i : ℕ) → from ≤ n → (slice_get ends n ≡ Some (Some i)) → IsNextEnd ends i (n + 1) (slice_index next n)

-- the patterns that end in a state, each once and in order
pub record IsOwnList (ends : List (Option ℕ)) (i : ℕ) (own : List ℕ) : Type 0 where
  pub all : (n : ℕ) → (slice_get ends n ≡ Some (Some i)) → Contains own n
  pub within : (k : ℕ) → k < length own → (slice_get ends (slice_index own k) ≡ Some (Some i))
  pub rising : (j k : ℕ) → j < k → k < length own → slice_index own j < slice_index own k

-- the patterns that end in state i are appended to a list
abbrev pub AppendsOwn : List (Option ℕ) → ℕ → List ℕ → List ℕ → Type 0
AppendsOwn ends i old new = (own : List ℕ) × IsOwnList ends i own × (new ≡ old ++ own)

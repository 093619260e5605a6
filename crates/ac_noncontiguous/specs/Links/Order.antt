-- The states of a trie in order of their depth.
use Rattle.std.specs.Prelude.{◌≡◌, ℕ, ◌+◌, ◌<◌, ◌≤◌, ◌⊎◌, List, length, slice_index}
use Rattle.std.specs.List.{Contains}
use Rattle.ac_noncontiguous.specs.declared.trie.State.{State}
use Rattle.ac_noncontiguous.specs.Trie.Tree.{depth}

-- the first state of a depth among those from `from` on; a number past the last state where there is none
pub record IsNextOf (states : List State) (of_depth from at : ℕ) : Type 0 where
  pub found : at < length states → (from ≤ at) × (depth states at ≡ of_depth)
  pub least : (i : ℕ) → from ≤ i → i < length states → depth states i ≡ of_depth → at ≤ i

-- Among the states from `from` on: the first state of each depth, and for each state the next one of its depth.
pub record AreLevels (states : List State) (from : ℕ) (first next : List ℕ) : Type 0 where
  pub lens : (length first ≡ length states) × (length next ≡ length states)
  pub firsts : (d : ℕ) → d < length states → IsNextOf states d from (slice_index first d)
  pub nexts : (i : ℕ) → from ≤ i → i < length states → IsNextOf states (depth states i) (i + 1) (slice_index next i)

-- state i comes before state j: it is shallower, or as deep and added earlier
abbrev pub ComesBefore : List State → ℕ → ℕ → Type 0
ComesBefore states i j = (depth states i < depth states j) ⊎ ((depth states i ≡ depth states j) × (i < j))

-- the states shallower than d, and those of depth d before state `from`, each once and in order
pub record AreInOrder (states : List State) (d from : ℕ) (order : List ℕ) : Type 0 where
  pub all : (i : ℕ) → i < length states → ((depth states i < d) ⊎ ((depth states i ≡ d) × (i < from)))
      → Contains order i
  pub within : (k : ℕ) → k < length order
      → (slice_index order k < length states)
      × ((depth states (slice_index order k) < d)
      ⊎ ((depth states (slice_index order k) ≡ d) × ((slice_index order k) < from)))
  pub rising : (j k : ℕ) → j < k → k < length order → ComesBefore states (slice_index order j) (slice_index order k)

-- all states, each once, in order of their depth, and those of one depth as they were added
pub record IsBreadthFirst (states : List State) (order : List ℕ) : Type 0 where
  pub all : (i : ℕ) → i < length states → Contains order i
  pub within : (k : ℕ) → k < length order → slice_index order k < length states
  pub rising : (j k : ℕ) → j < k → k < length order → ComesBefore states (slice_index order j) (slice_index order k)

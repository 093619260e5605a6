-- How the states of the automaton are numbered, and which trie state each stands for.
use Rattle.std.specs.Prelude.{◌≡◌, ◌≢◌, ◌↔◌, ◌⊎◌, ℕ, ◌+◌, ◌<◌, ◌≤◌, nat_lt, not, Bool, true, false, List, [], ◌∷◌, ◌++◌, length, slice_index, slice_index_or, slice_get, Some}
use Rattle.std.specs.List.{filter}
use Rattle.ac_noncontiguous.specs.declared.links.Links.{Links}
use Rattle.ac_noncontiguous.specs.declared.links.Range.{Range}
use Rattle.ac_noncontiguous.specs.declared.compiler.numbering.Numbering.{Numbering}
use Rattle.ac_noncontiguous.specs.declared.compiler.numbering.Listed.{Listed}
use Rattle.ac_noncontiguous.specs.declared.trie.State.{State}
use Rattle.ac_noncontiguous.specs.Links.{no_range, by_state}
use Rattle.ac_noncontiguous.specs.Nfa.{InOneRun}
use Rattle.ac_noncontiguous.specs.Links.Order.{ComesBefore}

-- Each of this many trie states has a failure and a range, and each failure is one of these states.
pub record FitsTrie (states : ℕ) (links : Links) : Type 0 where
  pub fails : length links.fails.items ≡ states
  pub within : (i f : ℕ) → slice_get links.fails.items i ≡ Some (Some f) → f < states
  pub ranges : length (by_state links.ranges) ≡ states

-- how many patterns match at a trie state
abbrev pub range_len : List Range → ℕ → ℕ
range_len ranges i = (slice_index_or ranges i no_range).len

-- some pattern matches at the trie state (true), or none does (false)
abbrev pub is_chosen : List Range → Bool → ℕ → Bool
is_chosen ranges true i = nat_lt 0 (range_len ranges i)
is_chosen ranges false i = not (nat_lt 0 (range_len ranges i))

-- the trie states at which some pattern matches (true), or none does (false)
abbrev pub chosen : List Range → Bool → List ℕ → List ℕ
chosen ranges matching states = filter (is_chosen ranges matching) states

-- the trie states by number: two that stand for nothing, those of a first list, the start twice, and those of a second
-- list
abbrev pub numbered : List ℕ → List ℕ → List ℕ
numbered first second = 0 ∷ (0 ∷ first) ++ 0 ∷ [] ++ 0 ∷ [] ++ second

-- the states at which some pattern matches come first, then both starts, and then the others
pub record AreListed (ranges : List Range) (states : List ℕ) (places : Listed) : Type 0 where
  pub at : places.at.items ≡ numbered (chosen ranges true states) (chosen ranges false states)
  pub start : places.start ≡ length (chosen ranges true states) + 2

-- Each state but the first two stands for a trie state. Both starts stand for the trie's start, and no other state
-- does.
pub record ArePlaces (states : ℕ) (at : List ℕ) (start : ℕ) : Type 0 where
  pub counted : length at ≡ states + 3
  pub starts : (1 < start) × (start + 1 < length at) × (slice_index at start ≡ 0) × (slice_index at (start + 1) ≡ 0)
  pub others : (j : ℕ) → 1 < j → j < length at → slice_index at j ≡ 0 → (j ≡ start) ⊎ (j ≡ start + 1)
  pub within : (j : ℕ) → j < length at → slice_index at j < states
  pub all : (i : ℕ) → i < states → (j : ℕ) × (1 < j) × (j < length at) × (slice_index at j ≡ i)

-- Before the starts and after them, states stand for trie states in breadth-first order. Only the two starts share a
-- trie state.
pub record AreInRuns (states : List State) (at : List ℕ) (start : ℕ) : Type 0 where
  pub rising : (j k : ℕ) → j < k → k < length at → InOneRun start j k
      → ComesBefore states (slice_index at j) (slice_index at k)
  pub apart : (j k : ℕ) → 1 < j → j < k → k < length at → slice_index at j ≡ slice_index at k
      → (j ≡ start) × (k ≡ start + 1)

-- among the states from `from` on: each trie state has the least number of a state that stands for it
pub record AreFirstNumbers (at : List ℕ) (from : ℕ) (of : List ℕ) : Type 0 where
  pub back : (j : ℕ) → from ≤ j → j < length at → slice_index at (slice_index of (slice_index at j)) ≡ slice_index at j
  pub least : (j : ℕ) → from ≤ j → j < length at
      → (from ≤ slice_index of (slice_index at j)) × (slice_index of (slice_index at j) ≤ j)

-- The number of each of this many trie states. The trie's start has the number of the unanchored start.
pub record AreTrieNumbers (states : ℕ) (at of : List ℕ) (start : ℕ) : Type 0 where
  pub counted : length of ≡ states
  pub numbers : (i : ℕ) → i < states
      → (1 < slice_index of i) × (slice_index of i < length at) × (slice_index of i ≢ start + 1)
      × (slice_index at (slice_index of i) ≡ i)

-- the last state at which some pattern matches
pub record IsLastMatch (ranges : List Range) (at : List ℕ) (start max_match : ℕ) : Type 0 where
  pub some : (j : ℕ) → 1 < j → j < length at → (0 < range_len ranges (slice_index at j)) ↔ (j ≤ max_match)
  pub greatest : (max_match + 1 ≡ start) ⊎ (max_match ≡ start + 1)

-- A numbering of this many trie states: the trie state of each number, and the number of each trie state.
pub record IsNumbering (states : ℕ) (numbering : Numbering) : Type 0 where
  pub places : ArePlaces states numbering.at.items numbering.start
  pub numbers : AreTrieNumbers states numbering.at.items numbering.of.items numbering.start

-- To which state each state of a trie fails, and which patterns match there.
pub mod Children
pub mod Failures
pub mod Lists
pub mod Order
pub mod Own
pub mod Stored
use Rattle.std.specs.Prelude.{◌≡◌, ℕ, ◌+◌, ◌<◌, ◌≤◌, List, length, map, take, drop, slice_index, slice_index_or, slice_get, Option, Some, option_map}
use Rattle.ac_input.specs.Dictionary.{Dictionary}
use Rattle.ac_input.specs.Failure.{IsList}
use Rattle.ac_input.specs.States.{FailsTo}
use Rattle.ac_noncontiguous.specs.declared.links.Links.{Links}
use Rattle.ac_noncontiguous.specs.declared.links.Range.{Range}
use Rattle.ac_noncontiguous.specs.declared.links.ranges.Ranges.{Ranges}
use Rattle.ac_noncontiguous.specs.declared.trie.State.{State}
use Rattle.ac_noncontiguous.specs.Trie.Tree.{text}

-- the value that is read past the last range
abbrev pub no_range : Range
no_range = record { from = 0; len = 0 }

-- the range of each state
abbrev pub by_state : Ranges → List Range
by_state it = map (λ number. slice_index_or it.each.items number no_range) it.at.items

-- the patterns of a range
abbrev pub in_range : List ℕ → Range → List ℕ
in_range matches range = take range.len (drop range.from matches)

-- For each state of a trie, the state to which it fails; none if that is the dead one.
pub record AreFails (m : Dictionary) (states : List State) (fails : List (Option ℕ)) : Type 0 where
  pub counted : length fails ≡ length states
  pub within : (i f : ℕ) → slice_get fails i ≡ Some (Some f) → f < length states
  pub leads : (i : ℕ) (r : Option ℕ) → slice_get fails i ≡ Some r
      → FailsTo m (text states i) (option_map (text states) r)

-- For each state of a trie the patterns that match there: a range of one list.
pub record AreRanges (m : Dictionary) (states : List State) (ranges : List Range) (matches : List ℕ) : Type 0 where
  pub counted : length ranges ≡ length states
  pub within : (i : ℕ) → i < length states
      → (slice_index_or ranges i no_range).from + (slice_index_or ranges i no_range).len ≤ length matches
  pub lists : (i : ℕ) → i < length states
      → IsList m (text states i) (in_range matches (slice_index_or ranges i no_range))
  pub known : (k : ℕ) → k < length matches → slice_index matches k < length m.patterns

-- the failures and the patterns of all states of the trie of a dictionary
pub record AreLinks (m : Dictionary) (states : List State) (links : Links) : Type 0 where
  pub fails : AreFails m states links.fails.items
  pub lists : AreRanges m states (by_state links.ranges) links.matches.items

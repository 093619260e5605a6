-- How the patterns that match at a state are listed, from the lists of shallower states.
use Rattle.std.specs.Prelude.{◌≡◌, ◌⊎◌, ℕ, ◌+◌, ◌<◌, ◌≤◌, ◌++◌, List, length, slice_index_or, slice_get, Option, Some, None}
use Rattle.std.specs.List.{Contains}
use Rattle.ac_input.specs.Pairing.{IsDistinct}
use Rattle.ac_noncontiguous.specs.declared.links.Range.{Range}
use Rattle.ac_noncontiguous.specs.declared.trie.State.{State}
use Rattle.ac_noncontiguous.specs.Trie.Tree.{depth}
use Rattle.ac_noncontiguous.specs.Links.Own.{IsOwnList}
use Rattle.ac_noncontiguous.specs.Links.{no_range, in_range}

-- patterns, each once, that end in states shallower than `deep`
pub record EndAbove (states : List State) (ends : List (Option ℕ)) (deep : ℕ) (list : List ℕ) : Type 0 where
  pub distinct : IsDistinct list
  pub ended : (n : ℕ) → Contains list n → (e : ℕ) × (slice_get ends n ≡ Some (Some e)) × (depth states e < deep)

-- the range of the state's failure, or an empty one if it fails to the dead state
pub record IsRest (fails : List (Option ℕ)) (ranges : List Range) (i : ℕ) (rest : Range) : Type 0 where
  pub some : (f : ℕ) → slice_get fails i ≡ Some (Some f) → rest ≡ slice_index_or ranges f no_range
  pub none : slice_get fails i ≡ Some None → rest ≡ no_range

-- The list of a state is its own patterns and then the rest, those of its failure; what was listed before stays.
pub record IsListed (ends : List (Option ℕ)) (i : ℕ) (rest range : Range) (old new : List ℕ) : Type 0 where
  pub own : List ℕ
  pub are_own : IsOwnList ends i own
  pub list : in_range new range ≡ own ++ in_range old rest
  pub more : List ℕ
  pub kept : new ≡ old ++ more
  pub inside : (range.from + range.len ≤ length new)
  pub known : (n : ℕ) → Contains new n → Contains old n ⊎ (slice_get ends n ≡ Some (Some i))

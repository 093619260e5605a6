-- The ranges of the states of a trie, each stored once.
use Rattle.std.specs.Prelude.{◌≡◌, ℕ, ◌+◌, ◌<◌, ◌≤◌, length, replicate, slice_index_or, slice_set}
use Rattle.ac_noncontiguous.specs.declared.links.Range.{Range}
use Rattle.ac_noncontiguous.specs.declared.links.ranges.Ranges.{Ranges}
use Rattle.ac_noncontiguous.specs.Links.{no_range, by_state}

-- the range of a number
abbrev pub range_at : Ranges → ℕ → Range
range_at it number = slice_index_or it.each.items number no_range

-- one more range has a number of four bytes
abbrev pub HasFewRanges : Ranges → Type 0
HasFewRanges it = length it.each.items < 4294967296

-- each of this many states has the empty range, which is the only one
pub record AreEmptyRanges (states : ℕ) (it : Ranges) : Type 0 where
  pub empty : by_state it ≡ replicate states no_range
  pub one : length it.each.items ≡ 1

-- one more range is stored, under this number; the states have those that they had
pub record AddsRange (old new : Ranges) (range : Range) (number : ℕ) : Type 0 where
  pub same : by_state new ≡ by_state old
  pub more : length new.each.items ≡ length old.each.items + 1
  pub added : (number < length new.each.items) × (range_at new number ≡ range)

-- the state gets this range, and no range is stored
pub record PointsTo (old new : Ranges) (id : ℕ) (range : Range) : Type 0 where
  pub set : by_state new ≡ slice_set (by_state old) id range
  pub same : length new.each.items ≡ length old.each.items

-- the state gets this range, and at most one range is stored
pub record SetsRange (old new : Ranges) (id : ℕ) (range : Range) : Type 0 where
  pub set : by_state new ≡ slice_set (by_state old) id range
  pub few : length new.each.items ≤ length old.each.items + 1

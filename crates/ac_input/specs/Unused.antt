-- Bytes that no pattern has. No occurrence covers one of them, so a search splits after it.
use Rattle.std.specs.Prelude.{◌≡◌, ℕ, ◌+◌, ◌≤◌, false, List, ◌++◌, Contains, Option, Some, IsTrue, slice_get, slice_index}
use Rattle.ac_input.specs.declared.search.MatchKind.{MatchKind}
use Rattle.ac_input.specs.Same.{same}
use Rattle.ac_input.specs.Occurrence.{Search, starting_at}
use Rattle.ac_input.specs.Computed.{walk_after, listing_of}
use Rattle.ac_input.specs.Laws.{IsInside}
use Rattle.ac_input.specs.Work.{shortest}

-- no pattern has the byte, or its partner
abbrev pub IsUnused : Search → ℕ → Type 0
IsUnused s byte =
    (n : ℕ) (p : List ℕ) (c : ℕ) → slice_get s.patterns n ≡ Some p → Contains p c → ¬ IsTrue (same s.pairing c byte)

-- the place comes just after an unused byte of the haystack
abbrev pub IsAfterUnused : Search → ℕ → Type 0
IsAfterUnused s place = (before : ℕ) × (before + 1 ≡ place) × IsUnused s (slice_index s.haystack before)

-- Whatever the kind, a walk is the walk of the part through an unused byte, followed by the walk of the part after it.
abbrev pub WalkSplitsAfterUnused : Type 0
WalkSplitsAfterUnused =
    (kind : MatchKind) (s : Search) (at place : ℕ) (last next : Option ℕ) → IsInside s → s.anchored ≡ false
    → 1 ≤ shortest s.patterns
    → at ≤ place → place ≤ s.end → IsAfterUnused s place
    → walk_after kind s at last ≡ walk_after kind (record s { end = place }) at last ++ walk_after kind s place next

-- The overlapping listing is that of the part through an unused byte, followed by that of the part after it.
abbrev pub ListingSplitsAfterUnused : Type 0
ListingSplitsAfterUnused =
    (s : Search) (place : ℕ) → IsInside s → s.anchored ≡ false → 1 ≤ shortest s.patterns
    → s.start ≤ place → place ≤ s.end → IsAfterUnused s place
    → listing_of s ≡ listing_of (record s { end = place }) ++ listing_of (starting_at s place)

-- The best, the pick, the walk and the listing as functions that compute them. The laws prove that each is the only
-- value that meets its relation.
use Rattle.std.specs.Prelude.{ℕ, zero, suc, ◌+◌, ◌-◌, ◌*◌, Bool, true, false, ◌&&◌, ◌==◌, nat_le, List, [], ◌∷◌, ◌++◌, length, Option, Some, None, if◌then◌else◌, slice_range, filter}
use Rattle.std.specs.declared.cmp.Ordering.{Ordering}
use Rattle.std.specs.declared.cmp.Ordering.TheVariants.{Less, Equal, Greater}
use Rattle.ac_input.specs.declared.search.MatchKind.{MatchKind}
use Rattle.ac_input.specs.declared.search.MatchKind.TheVariants.{Standard}
use Rattle.ac_input.specs.Same.{same_text}
use Rattle.ac_input.specs.Occurrence.{Search, Occurrence, starting_at}
use Rattle.ac_input.specs.Best.{preference}

-- the occurrences at a place of these patterns, which are numbered from n on
abbrev pub at_place : Search → ℕ → List (List ℕ) → ℕ → List Occurrence
at_place s at [] n = []
at_place s at (p ∷ ps) n =
    if nat_le (at + length p) s.end && same_text s.pairing p (slice_range s.haystack at (at + length p))
    then record { pattern = n; start = at; end = at + length p } ∷ at_place s at ps (n + 1)
    else at_place s at ps (n + 1)

-- the occurrences that start at one of the next `places` places, from place `at` on
abbrev pub from_place : Search → ℕ → ℕ → List Occurrence
from_place s at zero = []
from_place s at (suc places) = at_place s at s.patterns 0 ++ from_place s (at + 1) places

-- all occurrences of the search, by start and number
abbrev pub occurrences : Search → List Occurrence
occurrences s =
    if s.anchored then from_place s s.start (if nat_le s.start s.end then 1 else 0)
    else from_place s s.start (s.end + 1 - s.start)

abbrev pub is_less : Ordering → Bool
is_less Less = true
is_less Equal = false
is_less Greater = false

-- the one of some occurrences that the kind prefers
abbrev pub least : MatchKind → List Occurrence → Option Occurrence
least kind [] = None
least kind (o ∷ os) =
    elim (least kind os) [ None ↦ Some o | Some b ↦ (if is_less (preference kind b o) then Some b else Some o) ]

-- the best occurrence
abbrev pub best_of : MatchKind → Search → Option Occurrence
best_of kind s = least kind (occurrences s)

abbrev pub repeats : Option ℕ → Occurrence → Bool
repeats None o = false
repeats (Some last) o = (o.start == last) && (o.end == last)

-- the pick of a walk that stands at a place, where `all` lists the occurrences of a search that count
abbrev pub pick_among : (Search → List Occurrence) → MatchKind → Search → ℕ → Option ℕ → Option Occurrence
pick_among all kind s at last =
    elim (least kind (all (starting_at s at))) [
      | None ↦ None
      | Some b ↦
          (if repeats last b then least kind (all (starting_at s (at + 1))) else Some b)
    ]

-- the picks of a walk that stands at a place, at most this many
abbrev pub walk_from : (Search → List Occurrence) → ℕ → MatchKind → Search → ℕ → Option ℕ → List Occurrence
walk_from all zero kind s at last = []
walk_from all (suc turns) kind s at last =
    elim (pick_among all kind s at last) [ None ↦ [] | Some o ↦ o ∷ walk_from all turns kind s o.end (Some o.end) ]

-- The walk that stands at a place. Each pick that isn't empty moves it on, so two turns a place are enough.
abbrev pub walk_among : (Search → List Occurrence) → MatchKind → Search → ℕ → Option ℕ → List Occurrence
walk_among all kind s at last = walk_from all (2 * (s.end + 1 - at) + 1) kind s at last

-- the pick where every occurrence counts
abbrev pub pick_of : MatchKind → Search → ℕ → Option ℕ → Option Occurrence
pick_of kind s at last = pick_among occurrences kind s at last

-- the walk where every occurrence counts
abbrev pub walk_after : MatchKind → Search → ℕ → Option ℕ → List Occurrence
walk_after kind s at last = walk_among occurrences kind s at last

-- the whole walk
abbrev pub walk_of : MatchKind → Search → List Occurrence
walk_of kind s = walk_after kind s s.start None

-- those of the occurrences that count that end at one of the next `places` places, from place `at` on, by their ends
abbrev pub to_place : (Search → List Occurrence) → Search → ℕ → ℕ → List Occurrence
to_place all s at zero = []
to_place all s at (suc places) = filter (λ o. o.end == at) (all s) ++ to_place all s (at + 1) places

-- the listing of the occurrences that count: for each end in turn those that end there
abbrev pub listing_among : (Search → List Occurrence) → Search → List Occurrence
listing_among all s = to_place all s s.start (s.end + 1 - s.start)

-- the overlapping listing, of every occurrence
abbrev pub listing_of : Search → List Occurrence
listing_of s = listing_among occurrences s

-- whether an occurrence comes after `before` by end, start and number; with no `before`, each one does
abbrev pub is_after : Option Occurrence → Occurrence → Bool
is_after None o = true
is_after (Some before) o = is_less (preference Standard before o)

-- the part of the overlapping listing after a given occurrence; all of it where none is given
abbrev pub listing_after : Search → Option Occurrence → List Occurrence
listing_after s before = filter (is_after before) (listing_of s)

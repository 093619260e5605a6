-- What the plain program looks for at one place, and which of two occurrences it takes.
use Rattle.std.specs.Prelude.{◌≡◌, ℕ, ◌<◌, ◌≤◌, Bool, List, Option, Some, None, if◌then◌else◌}
use Rattle.ac_input.specs.declared.search.Anchored.{Anchored}
use Rattle.ac_input.specs.declared.search.Span.{Span}
use Rattle.ac_input.specs.declared.search.MatchKind.{MatchKind}
use Rattle.ac_input.specs.Occurrence.{Search, Occurrence, starting_at}
use Rattle.ac_input.specs.Walk.{IsPickAmong, IsWalkAmong}
use Rattle.ac_input.specs.Computed.{walk_among}
use Rattle.ac_input.specs.Mask.{masked_among}
use Rattle.ac_input.specs.Word.{OccursAsked, asked_occurrences}
use Rattle.ac_input.specs.Input.{is_anchored}
use Rattle.ac_input.specs.Best.{preference, IsAfter}
use Rattle.std.specs.Ordering.{is_lt}

-- the search of a haystack within a span
abbrev pub search_for : List (List ℕ) → List ℕ → List ℕ → Span → Anchored → Search
search_for patterns pairing haystack span anchored =
    record {
      patterns = patterns;
      pairing = pairing;
      haystack = haystack;
      start = span.start;
      end = span.end;
      anchored = is_anchored anchored;
    }

-- what the plain program looks for: a search, and whether whole words alone count
pub record Plain : Type 0 where
  pub search : Search
  pub words : Bool

-- the same from another place on
abbrev pub plain_starting_at : Plain → ℕ → Plain
plain_starting_at p at = record p { search = starting_at p.search at }

-- the occurrence counts
abbrev pub PlainOccurs : Plain → Occurrence → Type 0
PlainOccurs p o = OccursAsked p.words p.search o

-- it counts, and starts at a place
abbrev pub PlainStartsAt : Plain → ℕ → Occurrence → Type 0
PlainStartsAt p at o = PlainOccurs p o × (o.start ≡ at)

-- the next pick of a walk that stands at a place, where `last` is the end of the pick before it, if there was one
abbrev pub IsPlainPick : Plain → MatchKind → ℕ → Option ℕ → Option Occurrence → Type 0
IsPlainPick p kind at last r = IsPickAmong (OccursAsked p.words) kind p.search at last r

-- the picks of the whole walk
abbrev pub IsPlainWalk : Plain → MatchKind → List Occurrence → Type 0
IsPlainWalk p kind os = IsWalkAmong (OccursAsked p.words) kind p.search p.search.start None os

-- the walk that stands at a place, computed
abbrev pub plain_walk : Plain → MatchKind → ℕ → Option ℕ → List Occurrence
plain_walk p kind at last = walk_among (asked_occurrences p.words) kind p.search at last

-- the masked haystack of the occurrences that count
abbrev pub plain_masked : ℕ → Plain → List ℕ
plain_masked mask p = masked_among (asked_occurrences p.words) mask p.search

-- the one occurrence of which P holds, or none where P holds of none
abbrev pub IsOnly : (Occurrence → Type 0) → Option Occurrence → Type 0
IsOnly P None = (o : Occurrence) → ¬ P o
IsOnly P (Some it) = P it × ((o : Occurrence) → P o → o ≡ it)

-- the occurrence ends at a place, and comes after a given one
abbrev pub EndsAfter : Plain → ℕ → Option Occurrence → Occurrence → Type 0
EndsAfter p end before o = (PlainOccurs p o × (o.end ≡ end)) × IsAfter before o

-- the occurrence ends at a place or later, and comes after a given one
abbrev pub ReachesAfter : Plain → ℕ → Option Occurrence → Occurrence → Type 0
ReachesAfter p from before o = PlainOccurs p o × IsAfter before o × (from ≤ o.end)

-- the occurrence is that of a later pattern, and lies exactly where a given one does
abbrev pub LiesAlike : Plain → Occurrence → Occurrence → Type 0
LiesAlike p before o = PlainOccurs p o × (o.start ≡ before.start) × (o.end ≡ before.end) × (before.pattern < o.pattern)

-- the one that a kind prefers of two that may be absent; the first where it prefers neither
abbrev pub preferred : MatchKind → Option Occurrence → Option Occurrence → Option Occurrence
preferred kind None candidate = candidate
preferred kind (Some best) None = Some best
preferred kind (Some best) (Some candidate) =
    if is_lt (preference kind candidate best) then Some candidate else Some best

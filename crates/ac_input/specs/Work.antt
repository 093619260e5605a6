-- How much a search may cost.
use Rattle.std.specs.Prelude.{◌≡◌, ◌≢◌, ℕ, ◌+◌, ◌-◌, ◌*◌, ◌≤◌, max, min, Bool, List, [], ◌∷◌, length, IfSome, IsTrue, Option, None, Some, if◌then◌else◌}
use Rattle.ac_input.specs.Number.{usize_max}
use Rattle.ac_input.specs.declared.search.MatchKind.{MatchKind}
use Rattle.ac_input.specs.declared.search.MatchKind.TheVariants.{Standard}
use Rattle.ac_input.specs.declared.steps.Steps.{Steps}
use Rattle.ac_input.specs.Candidate.{Filter}
use Rattle.ac_input.specs.Occurrence.{Search, Occurrence}

-- How many states are looked at per byte, amortised: one by a deterministic automaton, which has followed every failure
-- beforehand; two by another.
abbrev pub lookups_per_byte : Bool → ℕ
lookups_per_byte deterministic = if deterministic then 1 else 2

-- The looks of a search that read this many more bytes. There is at least one for each byte. There are at most two for
-- each, plus the bytes that were live before, less those that are live after. A deterministic automaton takes exactly
-- one for each.
pub record IsLookups (deterministic : Bool) (bytes live_before live_after : ℕ) (before after : Steps) : Type 0 where
  pub some : before.looked.value + bytes ≤ after.looked.value
  pub bound : after.looked.value + live_after ≤ before.looked.value + 2 * bytes + live_before
  pub one : IsTrue deterministic → after.looked.value ≡ before.looked.value + bytes
  pub scanned : after.scanned.value ≡ before.scanned.value
  pub moved : after.moved.value ≡ before.moved.value

-- the length of the longest pattern; 0 where there is none
abbrev pub longest : List (List ℕ) → ℕ
longest [] = 0
longest (p ∷ ps) = max (length p) (longest ps)

-- the length of the shortest pattern; the greatest number of a `usize` where there is none
abbrev pub shortest : List (List ℕ) → ℕ
shortest [] = usize_max
shortest (p ∷ ps) = min (length p) (shortest ps)

-- where a search with this result is over: at the match's end, or at the span's where there is none
abbrev pub over_at : Search → Option Occurrence → ℕ
over_at s None = s.end
over_at s (Some o) = o.end

-- What a find with this result may cost. Its looks are linear in the span. Under standard they end with the match;
-- under a leftmost kind they go at most the longest pattern and one byte past the match's start. Its scans cover at
-- most 256 places for each byte up to the match's end.
pub record IsFindWork (kind : MatchKind) (deterministic : Bool) (s : Search) (r : Option Occurrence)
    (before after : Steps) : Type 0 where
  pub looked : after.looked.value ≤ before.looked.value + lookups_per_byte deterministic * (s.end - s.start)
  pub standard : kind ≡ Standard
      → after.looked.value ≤ before.looked.value + lookups_per_byte deterministic * (over_at s r - s.start)
  pub leftmost : (o : Occurrence) → r ≡ Some o
      → after.looked.value ≤ before.looked.value + lookups_per_byte deterministic
      * (o.start + longest s.patterns + 1 - s.start)
  pub scanned : after.scanned.value ≤ before.scanned.value + 256 * (over_at s r - s.start)
  pub moved : after.moved.value ≡ before.moved.value

-- how far a search with this result has come at least: to the match's end, or to the span's where there is none; but an
-- anchored one without a match may be over at any place
abbrev pub come_at_least : Search → Option Occurrence → ℕ
come_at_least s None = if s.anchored then s.start else s.end
come_at_least s (Some o) = o.end

-- The search counts each byte that it passes: without a prefilter as a look, with one that scans for bytes as a look or
-- a scanned place. With a prefilter that searches for whole patterns, it doesn't.
abbrev pub CountsBytes : Option Filter → Type 0
CountsBytes filter = IfSome filter (λ f. f.needles ≢ [])

-- how many bytes these looks and scanned places count
abbrev pub bytes_counted : Option Filter → ℕ → ℕ → ℕ
bytes_counted None looks places = looks
bytes_counted (Some f) looks places = looks + places

-- at least this many bytes were counted
pub record HasCounted (filter : Option Filter) (bytes : ℕ) (before after : Steps) : Type 0 where
  pub least : CountsBytes filter
      → bytes_counted filter before.looked.value before.scanned.value + bytes
      ≤ bytes_counted filter after.looked.value after.scanned.value

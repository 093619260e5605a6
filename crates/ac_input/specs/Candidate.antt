-- What a prefilter may return, and what it costs.
use Rattle.std.specs.Prelude.{◌≡◌, ◌≢◌, ℕ, ◌+◌, ◌-◌, ◌<◌, ◌≤◌, List, [], ◌∷◌, length, Contains, IsTrue, Option, None, Some, slice_index}
use Rattle.ac_input.specs.declared.search.MatchKind.{MatchKind}
use Rattle.ac_input.specs.declared.search.MatchKind.TheVariants.{Standard}
use Rattle.ac_input.specs.declared.steps.Steps.{Steps}
use Rattle.ac_input.specs.declared.search.candidate.Candidate.{Candidate}
use Rattle.ac_input.specs.declared.search.candidate.Candidate.TheVariants as candidates
use Rattle.ac_input.specs.Same.{same}
use Rattle.ac_input.specs.Occurrence.{Search, Occurrence, Occurs}
use Rattle.ac_input.specs.Best.{IsBest}
use Rattle.ac_input.specs.Dictionary.{Dictionary}
use Rattle.ac_input.specs.Steps.{Done}

-- the place from which a search goes on
abbrev pub start_of : Candidate → Option ℕ
start_of candidates.None = None
start_of (candidates.Match o) = Some o.start
start_of (candidates.PossibleStartOfMatch at) = Some at

-- what a prefilter is made for: the dictionary, and the bytes that it scans for; no bytes where it searches for whole
-- patterns
pub record Filter : Type 0 where
  pub dictionary : Dictionary
  pub needles : List ℕ

-- What a prefilter may return. `None` means that nothing occurs. A possible start lies in the span, and no occurrence
-- begins before it. A match is the best of the search under a leftmost kind, and under every kind where there is one
-- pattern. Under standard a match is returned only where there is one pattern.
abbrev pub IsCandidate : MatchKind → Search → Candidate → Type 0
IsCandidate kind s candidates.None = (o : Occurrence) → ¬ Occurs s o
IsCandidate kind s (candidates.Match m) =
    ((kind ≢ Standard) → IsBest kind s (Some m)) × ((kind ≡ Standard) → length s.patterns ≡ 1)
    × ((length s.patterns ≡ 1) → (any : MatchKind) → IsBest any s (Some m))
IsCandidate kind s (candidates.PossibleStartOfMatch at) =
    (s.start ≤ at) × (at ≤ s.end) × ((o : Occurrence) → Occurs s o → at ≤ o.start)

-- no byte of the span is the same as a byte of a pattern
abbrev pub HasNoByte : Search → Type 0
HasNoByte s =
    (p : List ℕ) (byte at : ℕ) → Contains s.patterns p → Contains p byte → s.start ≤ at → at < s.end
    → ¬ IsTrue (same s.pairing byte (slice_index s.haystack at))

-- the first place of the span that holds one of these bytes, or none where no place does
abbrev pub IsFirstOf : List ℕ → Search → Option ℕ → Type 0
IsFirstOf bytes s None = (at : ℕ) → s.start ≤ at → at < s.end → ¬ Contains bytes (slice_index s.haystack at)
IsFirstOf bytes s (Some found) =
    (s.start ≤ found) × (found < s.end) × Contains bytes (slice_index s.haystack found)
    × ((at : ℕ) → s.start ≤ at → at < found → ¬ Contains bytes (slice_index s.haystack at))

-- how many places a scan covers, including the one that it finds
abbrev pub scan_len : Search → Option ℕ → ℕ
scan_len s None = s.end - s.start
scan_len s (Some found) = found + 1 - s.start

-- how far after a pattern's beginning a byte that is scanned for may stand: at most where the last of 255 bytes stands
abbrev pub max_distance : ℕ
max_distance = 254

-- the result of a scan for bytes: `None` where it found none, else a place at most `max_distance` before the byte that
-- it found
abbrev pub IsNearFound : Option ℕ → Candidate → Type 0
IsNearFound None c = c ≡ candidates.None
IsNearFound (Some found) c =
    (at : ℕ) × (c ≡ candidates.PossibleStartOfMatch at) × (at ≤ found) × (found ≤ at + max_distance)

-- A scan for bytes covered exactly these places of the span: those up to and including the first byte that it looks
-- for, or all of them, where there is none. They lie before the end of every occurrence that is whole in the span.
pub record IsScan (bytes : List ℕ) (s : Search) (places : ℕ) (c : Candidate) : Type 0 where
  pub found : Option ℕ
  pub first : IsFirstOf bytes s found
  pub exact : places ≡ scan_len s found
  pub near : IsNearFound found c
  pub before_ends : (o : Occurrence) → Occurs s o → s.start + places ≤ o.end

-- how many places a prefilter scanned to return this candidate: none where it searches for whole patterns
abbrev pub IsScanned : List ℕ → Search → ℕ → Candidate → Type 0
IsScanned [] s places c = places ≡ 0
IsScanned (byte ∷ bytes) s places c = IsScan (byte ∷ bytes) s places c

-- a prefilter counted the places that it scanned, and nothing else
abbrev pub IsScanCounted : List ℕ → Search → Candidate → Steps → Steps → Type 0
IsScanCounted needles s c before after = (places : ℕ) × Done 0 places 0 before after × IsScanned needles s places c

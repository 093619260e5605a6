-- The masked text: the haystack with each byte that an occurrence covers replaced by one byte, the mask.
use Rattle.std.specs.Prelude.{◌≡◌, ℕ, ◌+◌, ◌-◌, ◌<◌, ◌≤◌, Bool, ◌&&◌, nat_le, nat_lt, false, if◌then◌else◌, List, [], ◌∷◌, ◌++◌, length, take, replicate, slice_index, Option, Some, None}
use Rattle.std.specs.List.{list_any}
use Rattle.ac_input.specs.declared.search.MatchKind.TheVariants.{Standard}
use Rattle.ac_input.specs.Occurrence.{Search, Occurrence, Occurs}
use Rattle.ac_input.specs.Best.{IsLeast}
use Rattle.ac_input.specs.Computed.{occurrences}
use Rattle.ac_input.specs.Dictionary.{Dictionary, whole}

-- The occurrence covers the place: it starts there or before, and ends after it. An empty one covers no place.
abbrev pub Covers : Occurrence → ℕ → Type 0
Covers o at = (o.start ≤ at) × (at < o.end)

-- Some occurrence covers the place. `Is` says which occurrences of a search count; all that do count here, whether or
-- not they overlap.
abbrev pub IsCoveredAmong : (Search → Occurrence → Type 0) → Search → ℕ → Type 0
IsCoveredAmong Is s at = (o : Occurrence) × Is s o × Covers o at

-- the text has the mask at each covered place, and the byte of the haystack at each other
pub record IsMaskedAmong (Is : Search → Occurrence → Type 0) (mask : ℕ) (s : Search) (text : List ℕ) : Type 0 where
  pub len : length text ≡ length s.haystack
  pub covered : (at : ℕ) → IsCoveredAmong Is s at → slice_index text at ≡ mask
  pub kept : (at : ℕ) → ¬ IsCoveredAmong Is s at → slice_index text at ≡ slice_index s.haystack at

-- the place is covered, where every occurrence counts
abbrev pub IsCovered : Search → ℕ → Type 0
IsCovered s at = IsCoveredAmong Occurs s at

-- the text is the masked haystack, where every occurrence counts
abbrev pub IsMasked : ℕ → Search → List ℕ → Type 0
IsMasked mask s text = IsMaskedAmong Occurs mask s text

-- whether an occurrence covers the place
abbrev pub covers : ℕ → Occurrence → Bool
covers at o = nat_le o.start at && nat_lt at o.end

-- bytes that begin at a place of the haystack, with the mask at each place that one of the occurrences covers
abbrev pub masked_from : ℕ → List ℕ → ℕ → List Occurrence → List ℕ
masked_from at [] mask os = []
masked_from at (b ∷ bs) mask os = (if list_any (covers at) os then mask else b) ∷ masked_from (at + 1) bs mask os

-- the masked haystack of a search, where `all` lists the occurrences that count
abbrev pub masked_among : (Search → List Occurrence) → ℕ → Search → List ℕ
masked_among all mask s = masked_from 0 s.haystack mask (all s)

-- the same search, of its masked haystack
abbrev pub in_masked_among : (Search → List Occurrence) → ℕ → Search → Search
in_masked_among all mask s = record s { haystack = masked_among all mask s }

-- the masked haystack, where every occurrence counts
abbrev pub masked : ℕ → Search → List ℕ
masked mask s = masked_among occurrences mask s

-- the same search, of that haystack
abbrev pub in_masked : ℕ → Search → Search
in_masked mask s = in_masked_among occurrences mask s

-- The text is final before a place: however it goes on, what begins before the place ends within the text.
abbrev pub IsFinalBefore : Dictionary → List ℕ → ℕ → Type 0
IsFinalBefore m text place =
    (place ≤ length text)
    × ((more : List ℕ) (o : Occurrence) → Occurs (whole m (text ++ more) false) o → o.start < place
    → o.end ≤ length text)

-- the longest occurrence that ends at a place, or none; of equal ones that of the lowest number
abbrev pub IsLongestEnding : Search → ℕ → Option Occurrence → Type 0
IsLongestEnding s end r = IsLeast Standard (λ o. Occurs s o × (o.end ≡ end)) r

-- the text with the mask from an occurrence's start to the end; unchanged if there is none
abbrev pub masked_to_end : ℕ → List ℕ → Option Occurrence → List ℕ
masked_to_end mask text None = text
masked_to_end mask text (Some o) = take o.start text ++ replicate (length text - o.start) mask

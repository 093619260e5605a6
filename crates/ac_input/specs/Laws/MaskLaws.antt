-- The laws of masking: what a masked text is, what no longer occurs in it, and which part of it is final.
use Rattle.std.specs.Prelude.{◌≡◌, ◌↔◌, ℕ, ◌+◌, ◌<◌, ◌≤◌, Bool, false, List, [], ◌∷◌, ◌++◌, length, take, Option, Some, slice_get}
use Rattle.std.specs.Str.{IsUtf8}
use Rattle.ac_input.specs.Occurrence.{Search, Occurrence, Occurs}
use Rattle.ac_input.specs.Dictionary.{Dictionary, whole, IsLive}
use Rattle.ac_input.specs.Work.{longest}
use Rattle.ac_input.specs.Unused.{IsUnused}
use Rattle.ac_input.specs.Mask.{Covers, IsCovered, IsMasked, masked, in_masked, IsFinalBefore, IsLongestEnding, masked_to_end}
use Rattle.ac_input.specs.Laws.{IsInside}
use Rattle.ac_input.specs.Laws.Utf8Laws.{IsTextSearch}

-- a search has exactly one masked haystack, the computed one
abbrev pub MaskedIsOne : Type 0
MaskedIsOne =
    (mask : ℕ) (s : Search) (text : List ℕ) → IsInside s → IsMasked mask s text ↔ (text ≡ masked mask s)

-- if no pattern has the mask, only empty patterns occur in the masked haystack
abbrev pub OnlyEmptyOccurInMasked : Type 0
OnlyEmptyOccurInMasked =
    (mask : ℕ) (s : Search) (o : Occurrence) → IsInside s → IsUnused s mask → Occurs (in_masked mask s) o
    → slice_get s.patterns o.pattern ≡ Some []

-- if no pattern has the mask, a masked haystack that is masked again is unchanged
abbrev pub MaskedTwiceIsMasked : Type 0
MaskedTwiceIsMasked =
    (mask : ℕ) (s : Search) → IsInside s → IsUnused s mask → masked mask (in_masked mask s) ≡ masked mask s

-- where the text is final before a place, the masked text before it is the same, however the text goes on
abbrev pub MaskedFrontIsFinal : Type 0
MaskedFrontIsFinal =
    (mask : ℕ) (m : Dictionary) (text more : List ℕ) (anchored : Bool) (place : ℕ) → IsFinalBefore m text place
    → take place (masked mask (whole m (text ++ more) anchored)) ≡ take place (masked mask (whole m text anchored))

-- a text is final before each place after which at least as many bytes follow as the longest pattern has, less one
abbrev pub FinalBeforeLast : Type 0
FinalBeforeLast =
    (m : Dictionary) (text : List ℕ) (place : ℕ) → place ≤ length text
    → place + longest m.patterns ≤ length text + 1 → IsFinalBefore m text place

-- whatever the kind, a text is final before its live prefix
abbrev pub FinalBeforeLive : Type 0
FinalBeforeLive =
    (m : Dictionary) (text : List ℕ) (from : ℕ) → IsLive m false text (Some from) → IsFinalBefore m text from

-- the longest occurrences that end at each place cover what all occurrences cover
abbrev pub LongestCover : Type 0
LongestCover =
    (s : Search) (at : ℕ) → IsInside s
    → IsCovered s at ↔ ((o : Occurrence) × IsLongestEnding s o.end (Some o) × Covers o at)

-- The masked text of one more byte is the masked text so far, with the byte, and with the mask from the start of the
-- longest occurrence that ends there. So one pass that learns the longest occurrence at each end masks a text.
abbrev pub MaskedByLongest : Type 0
MaskedByLongest =
    (mask : ℕ) (m : Dictionary) (text : List ℕ) (byte : ℕ) (r : Option Occurrence)
    → IsLongestEnding (whole m (text ++ byte ∷ []) false) (length text + 1) r
    → masked mask (whole m (text ++ byte ∷ []) false)
    ≡ masked_to_end mask (masked mask (whole m text false) ++ byte ∷ []) r

-- with an ASCII mask, a masked text is a text
abbrev pub MaskedTextIsText : Type 0
MaskedTextIsText = (mask : ℕ) (s : Search) → IsTextSearch s → mask < 128 → IsUtf8 (masked mask s)

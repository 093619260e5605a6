-- The laws of whole words: what is found, what of it is settled before the text ends, and what masking leaves.
use Rattle.std.specs.Prelude.{◌≡◌, ◌↔◌, ◌⊎◌, ℕ, ◌+◌, ◌<◌, ◌≤◌, Bool, false, not, ◌&&◌, List, [], ◌∷◌, ◌++◌, length, take, Contains, IsTrue, Option, Some, slice_get, slice_index, filter}
use Rattle.ac_input.specs.declared.search.MatchKind.{MatchKind}
use Rattle.ac_input.specs.declared.search.MatchKind.TheVariants.{Standard}
use Rattle.ac_input.specs.Occurrence.{Search, Occurrence, Occurs, starting_at}
use Rattle.ac_input.specs.Best.{IsLeast}
use Rattle.ac_input.specs.Walk.{IsPickAmong, IsWalkAmong}
use Rattle.ac_input.specs.Listing.{ListsAll}
use Rattle.ac_input.specs.Computed.{least, pick_among, walk_among, listing_among, listing_of}
use Rattle.ac_input.specs.Dictionary.{Dictionary, whole}
use Rattle.ac_input.specs.Work.{longest}
use Rattle.ac_input.specs.Unused.{IsUnused}
use Rattle.ac_input.specs.Mask.{IsCoveredAmong, IsMaskedAmong, IsFinalBefore, masked_among, in_masked_among}
use Rattle.ac_input.specs.Word.{is_word_byte, is_whole_word, OccursWhole, whole_occurrences}
use Rattle.ac_input.specs.Laws.{IsApart, IsInside}
use Rattle.ac_input.specs.Laws.BeginningLaws.{IsBeginning}

-- Of the occurrences that count there is one best, one next pick, one walk, one listing and one masked haystack: those that
-- are computed from their list.
pub record AreComputed (Is : Search → Occurrence → Type 0) (all : Search → List Occurrence) : Type 0 where
  pub best : (kind : MatchKind) (s : Search) (r : Option Occurrence) → IsInside s
      → IsLeast kind (Is s) r ↔ (r ≡ least kind (all s))
  pub pick : (kind : MatchKind) (s : Search) (at : ℕ) (last : Option ℕ) (r : Option Occurrence) → IsInside s
      → IsPickAmong Is kind s at last r ↔ (r ≡ pick_among all kind s at last)
  pub walk : (kind : MatchKind) (s : Search) (at : ℕ) (last : Option ℕ) (os : List Occurrence) → IsInside s
      → IsWalkAmong Is kind s at last os ↔ (os ≡ walk_among all kind s at last)
  pub listing : (s : Search) (os : List Occurrence) → IsInside s → ListsAll (Is s) os ↔ (os ≡ listing_among all s)
  pub masked : (mask : ℕ) (s : Search) (text : List ℕ) → IsInside s
      → IsMaskedAmong Is mask s text ↔ (text ≡ masked_among all mask s)

-- the picks of a walk of whole words lie apart
abbrev pub WordWalkIsApart : Type 0
WordWalkIsApart =
    (kind : MatchKind) (s : Search) (at : ℕ) (last : Option ℕ) (os : List Occurrence) → IsInside s
    → IsWalkAmong OccursWhole kind s at last os → IsApart os

-- Each pick is a whole word of the search from some place on, at or after the place where the walk stands. If the walk is
-- unanchored, it is one of the search from the place where the walk stands.
abbrev pub WordWalkOccurs : Type 0
WordWalkOccurs =
    (kind : MatchKind) (s : Search) (at : ℕ) (last : Option ℕ) (os : List Occurrence) (o : Occurrence)
    → IsWalkAmong OccursWhole kind s at last os → Contains os o
    → ((from : ℕ) × (at ≤ from) × OccursWhole (starting_at s from) o)
    × (s.anchored ≡ false → OccursWhole (starting_at s at) o)

-- the listing of the whole words is the overlapping listing, filtered
abbrev pub WordListingIsFiltered : Type 0
WordListingIsFiltered =
    (s : Search) → IsInside s
    → listing_among whole_occurrences s ≡ filter (is_whole_word s.haystack) (listing_of s)

-- ---- what follows a text

-- What follows a text doesn't change whether an occurrence that ends before its end is a whole word.
abbrev pub WordBeforeEndStays : Type 0
WordBeforeEndStays =
    (text more : List ℕ) (o : Occurrence) → o.start ≤ o.end → o.end < length text
    → is_whole_word (text ++ more) o ≡ is_whole_word text o

-- An occurrence that ends where the text does stays a whole word exactly if the next byte isn't a word byte.
abbrev pub WordAtEndWaits : Type 0
WordAtEndWaits =
    (text more : List ℕ) (byte : ℕ) (o : Occurrence) → o.start ≤ o.end → o.end ≡ length text
    → is_whole_word (text ++ byte ∷ more) o ≡ (is_whole_word text o && not (is_word_byte byte))

-- The place whose byte settles a match of whole words. Under standard that is its end. Under a leftmost kind, it lies as
-- many bytes after its start as the longest pattern has.
abbrev pub settles_at : MatchKind → List (List ℕ) → Occurrence → ℕ
settles_at Standard patterns o = o.end
settles_at kind patterns o = o.start + longest patterns

-- the text has a byte at the place whose byte settles the match
abbrev pub IsSettled : Dictionary → List ℕ → Occurrence → Type 0
IsSettled m text o = settles_at m.kind m.patterns o < length text

-- A settled match is the next pick of a text exactly where it is the next pick of each text that it begins.
abbrev pub SettledPickStays : Type 0
SettledPickStays =
    (m : Dictionary) (text more : List ℕ) (at : ℕ) (last : Option ℕ) (o : Occurrence) → IsSettled m text o
    → IsPickAmong OccursWhole m.kind (whole m text false) at last (Some o)
    ↔ IsPickAmong OccursWhole m.kind (whole m (text ++ more) false) at last (Some o)

-- where the next pick of a text isn't settled, no settled match is the next pick, however the text goes on
abbrev pub UnsettledPickWaits : Type 0
UnsettledPickWaits =
    (m : Dictionary) (text more : List ℕ) (at : ℕ) (last : Option ℕ) (r : Option Occurrence) (o : Occurrence)
    → IsPickAmong OccursWhole m.kind (whole m text false) at last r
    → ((p : Occurrence) → r ≡ Some p → ¬ IsSettled m text p)
    → IsPickAmong OccursWhole m.kind (whole m (text ++ more) false) at last (Some o)
    → length text ≤ settles_at m.kind m.patterns o

-- The first picks of a walk, as far as they are settled, are the first picks however the text goes on.
abbrev pub SettledWalkBegins : Type 0
SettledWalkBegins =
    (m : Dictionary) (text more : List ℕ) (at : ℕ) (last : Option ℕ) (settled later picks : List Occurrence)
    → ((o : Occurrence) → Contains settled o → IsSettled m text o)
    → IsWalkAmong OccursWhole m.kind (whole m text false) at last (settled ++ later)
    → IsWalkAmong OccursWhole m.kind (whole m (text ++ more) false) at last picks → IsBeginning settled picks

-- ---- masking

-- If no pattern has the mask, a whole word that is left in the masked haystack lies beside a masked byte. That was a word
-- byte, and the mask is none.
abbrev pub WordIsLeftBesideMasked : Type 0
WordIsLeftBesideMasked =
    (mask : ℕ) (s : Search) (o : Occurrence) → IsInside s → IsUnused s mask → o.start < o.end
    → OccursWhole (in_masked_among whole_occurrences mask s) o
    → (at : ℕ) × ((at + 1 ≡ o.start) ⊎ (at ≡ o.end)) × IsCoveredAmong OccursWhole s at
    × IsTrue (is_word_byte (slice_index s.haystack at)) × (is_word_byte mask ≡ false)

-- If the mask is a word byte that no pattern has, only empty patterns are whole words of the masked haystack.
abbrev pub NoWordIsLeft : Type 0
NoWordIsLeft =
    (mask : ℕ) (s : Search) (o : Occurrence) → IsInside s → IsUnused s mask → IsTrue (is_word_byte mask)
    → OccursWhole (in_masked_among whole_occurrences mask s) o → slice_get s.patterns o.pattern ≡ Some []

-- The words of a text are final before a place: however it goes on, what begins before the place ends before the text
-- does. So the byte after it is known, too.
abbrev pub AreWordsFinalBefore : Dictionary → List ℕ → ℕ → Type 0
AreWordsFinalBefore m text place =
    (place ≤ length text)
    × ((more : List ℕ) (o : Occurrence) → Occurs (whole m (text ++ more) false) o → o.start < place
    → o.end < length text)

-- before each place after which as many bytes follow as the longest pattern has
abbrev pub WordsFinalBeforeLast : Type 0
WordsFinalBeforeLast =
    (m : Dictionary) (text : List ℕ) (place : ℕ) → place + longest m.patterns ≤ length text
    → AreWordsFinalBefore m text place

-- and before each place before which the text without its last byte is final
abbrev pub WordsFinalAfterByte : Type 0
WordsFinalAfterByte =
    (m : Dictionary) (text : List ℕ) (byte place : ℕ) → IsFinalBefore m text place
    → AreWordsFinalBefore m (text ++ byte ∷ []) place

-- where the words of a text are final before a place, the masked text before it is the same, however the text goes on
abbrev pub WordMaskIsFinal : Type 0
WordMaskIsFinal =
    (mask : ℕ) (m : Dictionary) (text more : List ℕ) (anchored : Bool) (place : ℕ) → AreWordsFinalBefore m text place
    → take place (masked_among whole_occurrences mask (whole m (text ++ more) anchored))
    ≡ take place (masked_among whole_occurrences mask (whole m text anchored))

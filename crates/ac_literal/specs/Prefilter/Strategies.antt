-- What makes a prefilter right for the patterns that it is made for.
use Rattle.std.specs.Prelude.{◌≡◌, ◌≢◌, ℕ, ◌<◌, ◌≤◌, Bool, false, ◌||◌, List, [], ◌∷◌, length, slice_index, IsTrue}
use Rattle.std.specs.List.{Contains}
use Rattle.ac_input.specs.declared.search.Span.{Span}
use Rattle.ac_input.specs.declared.search.Anchored.TheVariants.{No}
use Rattle.ac_input.specs.declared.search.candidate.Candidate.{Candidate}
use Rattle.ac_input.specs.declared.search.candidate.Candidate.TheVariants as candidates
use Rattle.ac_input.specs.declared.steps.Steps.{Steps}
use Rattle.ac_input.specs.Same.{same, IsUnpaired}
use Rattle.ac_input.specs.Dictionary.{Dictionary}
use Rattle.ac_input.specs.Input.{search_of}
use Rattle.ac_input.specs.Candidate.{max_distance, IsCandidate, HasNoByte, IsScanCounted}
use Rattle.ac_literal.specs.Prefilter.Needles.{ascii_limit, is_needle, needle_list}
use Rattle.ac_literal.specs.Packed.{Packed, search_kind, most_packed}
use Rattle.ac_literal.specs.declared.prefilter.needles.Needles.{Needles}
use Rattle.ac_literal.specs.declared.prefilter.strategy.RareBytes.{RareBytes}

-- there is a pattern, and none is empty
pub record AreFull (patterns : List (List ℕ)) : Type 0 where
  pub some : 0 < length patterns
  pub full : (p : List ℕ) → Contains patterns p → 0 < length p

-- whether the pattern begins with a byte that is the same as this one
abbrev pub begins_same : List ℕ → List ℕ → ℕ → Bool
begins_same pairing [] byte = false
begins_same pairing (first ∷ more) byte = same pairing first byte

-- whether some pattern begins with a byte that is the same as this one
abbrev pub is_start : List ℕ → List (List ℕ) → ℕ → Bool
is_start pairing [] byte = false
is_start pairing (p ∷ ps) byte = begins_same pairing p byte || is_start pairing ps byte

-- The needles are the bytes that patterns may begin with: the first byte of each one, and what is paired with it.
pub record AreStarts (m : Dictionary) (needles : Needles) : Type 0 where
  pub full : AreFull m.patterns
  pub exact : (byte : ℕ) → is_needle needles byte ≡ is_start m.pairing m.patterns byte
  pub low : (byte : ℕ) → IsTrue (is_needle needles byte) → byte < ascii_limit

-- the pattern has, at a place, a byte that is a needle, and so is its partner
pub record HoldsNeedle (pairing : List ℕ) (needles : Needles) (p : List ℕ) : Type 0 where
  pub at : ℕ
  pub within : at < length p
  pub needle : (byte : ℕ) → IsTrue (same pairing (slice_index p at) byte) → IsTrue (is_needle needles byte)

-- rare bytes serve patterns that are shorter than this
abbrev pub rare_len_limit : ℕ
rare_len_limit = 256

-- each byte of the pattern stands no further after the beginning than its distance and its partner's distance
abbrev pub AreDistances : List ℕ → List ℕ → List ℕ → Type 0
AreDistances pairing distances p =
    (at byte : ℕ) → at < length p → IsTrue (same pairing (slice_index p at) byte) → at ≤ slice_index distances byte

-- a byte that is the same as this one stands in some pattern
abbrev pub StandsInSome : List ℕ → List (List ℕ) → ℕ → Type 0
StandsInSome pairing patterns byte =
    (p : List ℕ) × (inner : ℕ) × Contains patterns p × Contains p inner × IsTrue (same pairing inner byte)

-- Every pattern, none of them too long, holds a needle, and the distances are those of all patterns.
pub record AreRare (m : Dictionary) (needles : Needles) (distances : List ℕ) : Type 0 where
  pub full : AreFull m.patterns
  pub short : (p : List ℕ) → Contains m.patterns p → length p < rare_len_limit
  pub held : (p : List ℕ) → Contains m.patterns p → HoldsNeedle m.pairing needles p
  pub reach : (p : List ℕ) → Contains m.patterns p → AreDistances m.pairing distances p
  pub near : (byte : ℕ) → slice_index distances byte ≤ max_distance
  pub known : (byte : ℕ) → IsTrue (is_needle needles byte) → StandsInSome m.pairing m.patterns byte

-- rare bytes are right for the dictionary
abbrev pub AreRareOf : Dictionary → RareBytes → Type 0
AreRareOf m rare = AreRare m rare.needles rare.distances

-- the searcher looks for exactly these patterns, several of them, with this leftmost preference, and nothing is paired
pub record IsPacked (m : Dictionary) (searcher : Packed) : Type 0 where
  pub full : AreFull m.patterns
  pub unpaired : IsUnpaired m.pairing
  pub patterns : searcher.patterns ≡ m.patterns
  pub kind : search_kind searcher.kind ≡ m.kind
  pub several : length m.patterns ≢ 1
  pub few : length m.patterns ≤ most_packed

-- the needle is the one pattern, and nothing is paired
pub record IsMemmem (m : Dictionary) (needle : List ℕ) : Type 0 where
  pub full : AreFull m.patterns
  pub unpaired : IsUnpaired m.pairing
  pub patterns : m.patterns ≡ needle ∷ []

-- the result of a prefilter: a candidate, and `None` if no byte of the span stands in a pattern
pub record IsAnswer (m : Dictionary) (haystack : List ℕ) (span : Span) (c : Candidate) : Type 0 where
  pub candidate : IsCandidate m.kind (search_of m No haystack span) c
  pub none : HasNoByte (search_of m No haystack span) → c ≡ candidates.None

-- a scan for needles has this result, and counts the places that it covered
pub record IsNeedleScan (m : Dictionary) (needles : Needles) (haystack : List ℕ) (span : Span) (before after : Steps)
    (c : Candidate) : Type 0 where
  pub answer : IsAnswer m haystack span c
  pub counted : IsScanCounted (needle_list needles) (search_of m No haystack span) c before after

-- a scan for these start bytes has this result, whatever dictionary they are right for
abbrev pub ScansStarts : Needles → List ℕ → Span → Steps → Steps → Candidate → Type 0
ScansStarts needles haystack span before after c =
    (m : Dictionary) → AreStarts m needles → IsNeedleScan m needles haystack span before after c

-- a scan for these rare bytes has this result, whatever dictionary they are right for
abbrev pub ScansRare : RareBytes → List ℕ → Span → Steps → Steps → Candidate → Type 0
ScansRare rare haystack span before after c =
    (m : Dictionary) → AreRareOf m rare → IsNeedleScan m rare.needles haystack span before after c

-- Which prefilters serve, and where one is built.
pub mod Builder
pub mod Needles
pub mod Rare
pub mod Strategies
use Rattle.std.specs.Prelude.{◌≡◌, ◌≢◌, ℕ, ◌<◌, ◌≤◌, ◌⊎◌, List, [], ◌∷◌, length, IsTrue}
use Rattle.std.specs.List.{Contains}
use Rattle.ac_input.specs.declared.search.MatchKind.TheVariants.{Standard}
use Rattle.ac_input.specs.declared.search.Span.{Span}
use Rattle.ac_input.specs.declared.search.Anchored.TheVariants.{No}
use Rattle.ac_input.specs.declared.search.candidate.Candidate.{Candidate}
use Rattle.ac_input.specs.declared.search.candidate.Candidate.TheVariants as candidates
use Rattle.ac_input.specs.declared.steps.Steps.{Steps}
use Rattle.ac_input.specs.Same.{same, IsUnpaired}
use Rattle.ac_input.specs.Dictionary.{Dictionary}
use Rattle.ac_input.specs.Input.{search_of}
use Rattle.ac_input.specs.Candidate.{Filter, IsCandidate, HasNoByte, IsScanCounted}
use Rattle.ac_literal.specs.declared.prefilter.strategy.Strategy.{Strategy}
use Rattle.ac_literal.specs.declared.prefilter.strategy.Strategy.TheVariants.{Memmem, Packed, StartBytes, RareBytes}
use Rattle.ac_literal.specs.Prefilter.Needles.{ascii_limit, most_needles, needle_list}
use Rattle.ac_literal.specs.Packed.{most_packed}
use Rattle.ac_literal.specs.Prefilter.Strategies.{AreFull, is_start, AreStarts, AreRareOf, IsPacked, IsMemmem, rare_len_limit}

-- the way of finding candidates is right for the dictionary
abbrev pub IsStrategyOf : Dictionary → Strategy → Type 0
IsStrategyOf m (Memmem needle) = IsMemmem m needle
IsStrategyOf m (Packed searcher) = IsPacked m searcher
IsStrategyOf m (StartBytes needles) = AreStarts m needles
IsStrategyOf m (RareBytes rare) = AreRareOf m rare

-- the bytes that a strategy scans for; none where it searches for whole patterns
abbrev pub needles_of : Strategy → List ℕ
needles_of (Memmem needle) = []
needles_of (Packed searcher) = []
needles_of (StartBytes needles) = needle_list needles
needles_of (RareBytes rare) = needle_list rare.needles

-- the prefilter's result is a candidate of the search of the span
abbrev pub IsCandidateIn : Filter → List ℕ → Span → Candidate → Type 0
IsCandidateIn f haystack span c = IsCandidate f.dictionary.kind (search_of f.dictionary No haystack span) c

-- the prefilter returns `None` if no byte of the span stands in a pattern
abbrev pub IsNoneWithoutByte : Filter → List ℕ → Span → Candidate → Type 0
IsNoneWithoutByte f haystack span c = HasNoByte (search_of f.dictionary No haystack span) → c ≡ candidates.None

-- the prefilter counts the places of the span that it scanned for its needles, and nothing else
abbrev pub IsCountedIn : Filter → List ℕ → Span → Candidate → Steps → Steps → Type 0
IsCountedIn f haystack span c before after =
    IsScanCounted f.needles (search_of f.dictionary No haystack span) c before after

-- at most three bytes, among them every byte that a pattern may begin with, all of those ASCII
abbrev pub AreStartBytes : Dictionary → List ℕ → Type 0
AreStartBytes m bytes =
    (length bytes ≤ most_needles)
    × ((byte : ℕ) → IsTrue (is_start m.pairing m.patterns byte) → Contains bytes byte × (byte < ascii_limit))

-- At most three bytes. No pattern is too long, and each holds one of these bytes, whose partner is one of them, too.
abbrev pub AreRareBytes : Dictionary → List ℕ → Type 0
AreRareBytes m bytes =
    (length bytes ≤ most_needles)
    × ((p : List ℕ) → Contains m.patterns p
    → (length p < rare_len_limit)
    × ((rare : ℕ) × Contains p rare × ((byte : ℕ) → IsTrue (same m.pairing rare byte) → Contains bytes byte)))

-- Packed search serves the patterns of a leftmost kind, as many as it takes, where nothing is paired.
abbrev pub PackedServes : Dictionary → Type 0
PackedServes m = (m.kind ≢ Standard) × IsUnpaired m.pairing × (length m.patterns ≤ most_packed)

-- The search for one pattern serves where nothing is paired.
abbrev pub MemmemServes : Dictionary → Type 0
MemmemServes m = IsUnpaired m.pairing × (length m.patterns ≡ 1)

-- some prefilter must be built, if memory suffices
abbrev pub IsDemanded : Dictionary → Type 0
IsDemanded m = (AreFull m.patterns × PackedServes m) ⊎ (AreFull m.patterns × ((bytes : List ℕ) × AreStartBytes m bytes))

-- some prefilter may be built
abbrev pub IsAdmissible : Dictionary → Type 0
IsAdmissible m =
    AreFull m.patterns
    × (MemmemServes m
    ⊎ (PackedServes m ⊎ (((bytes : List ℕ) × AreStartBytes m bytes) ⊎ ((bytes : List ℕ) × AreRareBytes m bytes))))

-- Searching with these needles serves the dictionary. Needles are start bytes or rare bytes of it. Without needles, the
-- search for one pattern or packed search serves it.
abbrev pub IsWayOf : Dictionary → List ℕ → Type 0
IsWayOf m [] = MemmemServes m ⊎ PackedServes m
IsWayOf m (byte ∷ bytes) = AreStartBytes m (byte ∷ bytes) ⊎ AreRareBytes m (byte ∷ bytes)

-- a prefilter was made for a dictionary, in a way that serves it
pub record IsPrefilterOf (m : Dictionary) (f : Filter) : Type 0 where
  pub dictionary : f.dictionary ≡ m
  pub admissible : IsAdmissible m
  pub way : IsWayOf f.dictionary f.needles

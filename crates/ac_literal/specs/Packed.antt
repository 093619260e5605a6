-- Packed search: the models of a builder and a searcher, and their results.
pub mod RabinKarp
pub mod Scanner
pub mod Teddy
use Rattle.std.specs.Prelude.{◌≡◌, ℕ, ◌<◌, ◌≤◌, Bool, true, false, ◌||◌, ◌==◌, List, [], ◌∷◌, ◌++◌, length, Option, Some, None, map, take, get_or, if◌then◌else◌}
use Rattle.std.specs.Borrow.{Bor}
use Rattle.ac_input.specs.declared.search.MatchKind as search
use Rattle.ac_input.specs.declared.search.MatchKind.TheVariants as searches
use Rattle.ac_literal.specs.declared.packed.api.MatchKind.{MatchKind}
use Rattle.ac_literal.specs.declared.packed.api.MatchKind.TheVariants.{LeftmostFirst, LeftmostLongest}
use Rattle.ac_input.specs.declared.search.Span.{Span}
use Rattle.ac_input.specs.Occurrence.{Search, Occurrence}
use Rattle.ac_input.specs.Best.{IsBest}
use Rattle.ac_input.specs.Computed.{walk_of}

-- this kind, under the name that the definitions of a search use
abbrev pub search_kind : MatchKind → search.MatchKind
search_kind LeftmostFirst = searches.LeftmostFirst
search_kind LeftmostLongest = searches.LeftmostLongest

-- what a builder has so far; an inert one has dropped its patterns, and takes no more
pub record Building : Type 0 where
  pub kind : MatchKind
  pub patterns : List (List ℕ)
  pub inert : Bool

-- a builder of this kind that has no pattern yet
abbrev pub fresh : MatchKind → Building
fresh kind = record { kind = kind; patterns = []; inert = false }

-- how many patterns packed search serves at most
abbrev pub most_packed : ℕ
most_packed = 128

-- whether a builder with this many patterns can't take this one: it is empty, or there are as many as packed search
-- serves
abbrev pub is_too_much : ℕ → List ℕ → Bool
is_too_much count pattern = (length pattern == 0) || (count == most_packed)

-- a builder with one more pattern
abbrev pub added : Building → List ℕ → Building
added b pattern =
    if b.inert then b
    else (if is_too_much (length b.patterns) pattern then record { kind = b.kind; patterns = []; inert = true }
    else record { kind = b.kind; patterns = b.patterns ++ pattern ∷ []; inert = false })

-- a builder with more patterns, in their order
abbrev pub added_all : Building → List (List ℕ) → Building
added_all b [] = b
added_all b (pattern ∷ patterns) = added_all (added b pattern) patterns

-- the builder has taken some of these patterns, from the first on, but not all
abbrev pub HasBeginning : Building → List (List ℕ) → Building → Type 0
HasBeginning old patterns new = (count : ℕ) × (count < length patterns) × (new ≡ added_all old (take count patterns))

-- what a builder takes: no more patterns than packed search serves, none of them empty
pub record AreTaken (patterns : List (List ℕ)) : Type 0 where
  pub few : length patterns ≤ most_packed
  pub full : (number : ℕ) → number < length patterns → 0 < length (get_or patterns number [])

-- what packed search serves: patterns, but not too many, none of them empty
pub record AreServed (patterns : List (List ℕ)) : Type 0 where
  pub some : 0 < length patterns
  pub few : length patterns ≤ most_packed
  pub full : (number : ℕ) → number < length patterns → 0 < length (get_or patterns number [])

-- each pattern has at least this many bytes
abbrev pub AreAsLong : ℕ → List (List ℕ) → Type 0
AreAsLong len patterns = (number : ℕ) → number < length patterns → len ≤ length (get_or patterns number [])

-- what a searcher looks for
pub record Packed : Type 0 where
  pub kind : MatchKind
  pub patterns : List (List ℕ)

-- the searcher that is built for these patterns; none where there are no patterns
abbrev pub built : MatchKind → List (List ℕ) → Option Packed
built kind [] = None
built kind (pattern ∷ patterns) = Some (record { kind = kind; patterns = pattern ∷ patterns })

-- the search of a part of a haystack for patterns, byte for byte
abbrev pub part_search : List (List ℕ) → List ℕ → ℕ → ℕ → Search
part_search patterns haystack start end =
    record { patterns = patterns; pairing = []; haystack = haystack; start = start; end = end; anchored = false }

-- the search of a span of a haystack for patterns, byte for byte
abbrev pub in_span : List (List ℕ) → List ℕ → Span → Search
in_span patterns haystack span = part_search patterns haystack span.start span.end

-- the search of a whole haystack
abbrev pub in_whole : List (List ℕ) → List ℕ → Search
in_whole patterns haystack = part_search patterns haystack 0 (length haystack)

-- the bytes of borrowed patterns
abbrev pub bytes_of : List (Bor (List ℕ)) → List (List ℕ)
bytes_of patterns = map (λ p. p.now) patterns

-- the leftmost-first searcher for these patterns
abbrev pub leftmost_first : List (List ℕ) → Packed
leftmost_first patterns = record { kind = LeftmostFirst; patterns = patterns }

-- the best match of a packed search in a span
abbrev pub IsBestIn : Packed → List ℕ → Span → Option Occurrence → Type 0
IsBestIn packed haystack span found = IsBest (search_kind packed.kind) (in_span packed.patterns haystack span) found

abbrev pub matches_of : Packed → List ℕ → List Occurrence
matches_of packed haystack = walk_of (search_kind packed.kind) (in_whole packed.patterns haystack)

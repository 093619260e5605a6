-- The laws of the beginning of a text: what a search of it finds, compared with a search of the whole text.
use Rattle.std.specs.Prelude.{◌≡◌, ◌↔◌, ℕ, ◌≤◌, Bool, true, false, List, ◌++◌, take, Option, Some}
use Rattle.ac_input.specs.declared.search.MatchKind.{MatchKind}
use Rattle.ac_input.specs.declared.search.MatchKind.TheVariants.{Standard}
use Rattle.ac_input.specs.Occurrence.{Search, Occurrence, Occurs}
use Rattle.ac_input.specs.Best.{asked_kind, IsBest}
use Rattle.ac_input.specs.Walk.{IsPick, IsWalk}
use Rattle.ac_input.specs.Listing.{IsListing}
use Rattle.ac_input.specs.Dictionary.{Dictionary, whole}
use Rattle.ac_input.specs.Cut.{IsCut}
use Rattle.ac_input.specs.Text.{replaced_from, listed}
use Rattle.ac_input.specs.Computed.{walk_of, listing_of}
use Rattle.ac_input.specs.Laws.{IsInside}

-- one list is the beginning of another, which goes on with a rest
abbrev pub IsBeginning : {X : Type 0} → List X → List X → Type 0
IsBeginning {X} front all = (rest : List X) × (all ≡ front ++ rest)

-- the same search in a longer haystack, with another end
abbrev pub longer : Search → List ℕ → ℕ → Search
longer s more end = record s { haystack = s.haystack ++ more; end = end }

-- The occurrences of the shorter search are exactly those of the longer one that end within the shorter span.
abbrev pub BeginningHasWhatEndsInIt : Type 0
BeginningHasWhatEndsInIt =
    (s : Search) (more : List ℕ) (end : ℕ) (o : Occurrence) → IsInside s → s.end ≤ end
    → Occurs s o ↔ (Occurs (longer s more end) o × (o.end ≤ s.end))

-- under standard a pick stays the pick, however the haystack goes on
abbrev pub PickOfBeginningStays : Type 0
PickOfBeginningStays =
    (s : Search) (more : List ℕ) (end at : ℕ) (last : Option ℕ) (o : Occurrence) → IsInside s → s.end ≤ end
    → IsPick Standard s at last (Some o) → IsPick Standard (longer s more end) at last (Some o)

-- under standard the walk of a beginning is a beginning of the walk
abbrev pub WalkOfBeginningBegins : Type 0
WalkOfBeginningBegins =
    (s : Search) (more : List ℕ) (end at : ℕ) (last : Option ℕ) (fewer picks : List Occurrence) → IsInside s
    → s.end ≤ end
    → IsWalk Standard s at last fewer → IsWalk Standard (longer s more end) at last picks → IsBeginning fewer picks

-- under standard the list of the matches of a beginning of the text is a beginning of the list of the text
abbrev pub ListOfBeginningBegins : Type 0
ListOfBeginningBegins =
    (m : Dictionary) (text more : List ℕ) (anchored : Bool)
    → IsBeginning (listed (walk_of Standard (whole m text anchored)))
    (listed (walk_of Standard (whole m (text ++ more) anchored)))

-- whatever the kind, the overlapping listing of a beginning is a beginning of the overlapping listing
abbrev pub ListingOfBeginningBegins : Type 0
ListingOfBeginningBegins =
    (s : Search) (more : List ℕ) (end : ℕ) (fewer all : List Occurrence) → IsInside s → s.end ≤ end
    → IsListing s fewer → IsListing (longer s more end) all → IsBeginning fewer all

-- the computed overlapping listing of a text, and the list written from it, are beginnings of those of a longer text
abbrev pub OverlappingListOfBeginningBegins : Type 0
OverlappingListOfBeginningBegins =
    (m : Dictionary) (text more : List ℕ) (anchored : Bool)
    → IsBeginning (listing_of (whole m text anchored)) (listing_of (whole m (text ++ more) anchored))
    × IsBeginning (listed (listing_of (whole m text anchored))) (listed (listing_of (whole m (text ++ more) anchored)))

-- Under standard the text before a cut is final: with its matches replaced, it is a beginning of the whole text with
-- its matches replaced. Its list of matches is a beginning of the whole text's list.
abbrev pub FrontOfCutIsFinal : Type 0
FrontOfCutIsFinal =
    (m : Dictionary) (text : List ℕ) (cut : ℕ) (replacements : List (List ℕ)) → m.kind ≡ Standard → IsCut m text cut
    → IsBeginning (replaced_from 0 (take cut text) replacements (walk_of m.kind (whole m (take cut text) false)))
    (replaced_from 0 text replacements (walk_of m.kind (whole m text false)))
    × IsBeginning (listed (walk_of m.kind (whole m (take cut text) false)))
    (listed (walk_of m.kind (whole m text false)))

-- An earliest search takes the standard best whatever the kind, and under standard each search is an earliest one.
abbrev pub EarliestIsStandard : Type 0
EarliestIsStandard =
    (kind : MatchKind) (earliest : Bool) (s : Search) (r : Option Occurrence)
    → (IsBest (asked_kind kind true) s r ↔ IsBest Standard s r)
    × (IsBest (asked_kind Standard earliest) s r ↔ IsBest Standard s r)

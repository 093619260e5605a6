-- The laws: what holds of the definitions, whatever the patterns and the text. Most ask that the span lies within the
-- haystack.
pub mod BeginningLaws
pub mod LiveLaws
pub mod MaskLaws
pub mod Utf8Laws
pub mod WordLaws
use Rattle.std.specs.Prelude.{◌≡◌, ◌≢◌, ◌↔◌, ℕ, ◌<◌, ◌≤◌, false, List, [], ◌∷◌, ◌++◌, length, Contains, Option, None}
use Rattle.std.specs.declared.cmp.Ordering.TheVariants.{Greater}
use Rattle.ac_input.specs.declared.search.MatchKind.{MatchKind}
use Rattle.ac_input.specs.Same.{IsUnpaired}
use Rattle.ac_input.specs.Occurrence.{Search, Occurrence, Occurs, starting_at}
use Rattle.ac_input.specs.Best.{preference, IsBest}
use Rattle.ac_input.specs.Walk.{IsPick, IsWalk}
use Rattle.ac_input.specs.Listing.{IsListing}
use Rattle.ac_input.specs.Text.{replaced_from, listed}
use Rattle.ac_input.specs.Rules.{FirstBadEscapedLine, FirstBadLine, FirstBadTextLine, IsEscapedRuleFile, IsRuleFile, IsTextRuleFile, Rule, Unescapes}
use Rattle.ac_input.specs.Computed.{best_of, pick_of, walk_after, walk_of}

-- Each occurrence starts where the one before it ended or later, and later than that one started. None is empty at the
-- very place where the one before it ended.
abbrev pub IsApart : List Occurrence → Type 0
IsApart [] = Unit {0}
IsApart (p ∷ []) = Unit {0}
IsApart (p ∷ q ∷ os) =
    (p.end ≤ q.start) × (p.start < q.start) × (¬ ((q.start ≡ p.end) × (q.end ≡ p.end))) × IsApart (q ∷ os)

-- The span ends within the haystack. Otherwise an occurrence could be given with several ends.
abbrev pub IsInside : Search → Type 0
IsInside s = s.end ≤ length s.haystack

-- of two different occurrences of a search, each kind prefers one
abbrev pub PreferenceTellsApart : Type 0
PreferenceTellsApart =
    (kind : MatchKind) (s : Search) (a b : Occurrence) → IsInside s → Occurs s a → Occurs s b
    → preference kind a b ≢ Greater → preference kind b a ≢ Greater → a ≡ b

-- a search has exactly one best, the computed one
abbrev pub BestIsOne : Type 0
BestIsOne =
    (kind : MatchKind) (s : Search) (r : Option Occurrence) → IsInside s → IsBest kind s r ↔ (r ≡ best_of kind s)

-- a walk has exactly one next pick, the computed one
abbrev pub PickIsOne : Type 0
PickIsOne =
    (kind : MatchKind) (s : Search) (at : ℕ) (last : Option ℕ) (r : Option Occurrence) → IsInside s
    → IsPick kind s at last r ↔ (r ≡ pick_of kind s at last)

-- there is exactly one walk from a place, the computed one
abbrev pub WalkIsOne : Type 0
WalkIsOne =
    (kind : MatchKind) (s : Search) (at : ℕ) (last : Option ℕ) (os : List Occurrence) → IsInside s
    → IsWalk kind s at last os ↔ (os ≡ walk_after kind s at last)

-- the picks of a walk lie apart
abbrev pub WalkIsApart : Type 0
WalkIsApart =
    (kind : MatchKind) (s : Search) (at : ℕ) (last : Option ℕ) (os : List Occurrence) → IsInside s
    → IsWalk kind s at last os → IsApart os

-- each pick lies in the span, and starts at or after the place where the walk stands
abbrev pub WalkLiesWithin : Type 0
WalkLiesWithin =
    (kind : MatchKind) (s : Search) (at : ℕ) (last : Option ℕ) (os : List Occurrence) (o : Occurrence)
    → IsWalk kind s at last os → Contains os o → (at ≤ o.start) × (o.start ≤ o.end) × (o.end ≤ s.end)

-- each pick of an unanchored walk is an occurrence of the search from the place where the walk stands
abbrev pub WalkOccurs : Type 0
WalkOccurs =
    (kind : MatchKind) (s : Search) (at : ℕ) (last : Option ℕ) (os : List Occurrence) (o : Occurrence)
    → s.anchored ≡ false → IsWalk kind s at last os → Contains os o → Occurs (starting_at s at) o

-- an occurrence stands exactly once in a list
abbrev pub StandsOnce : List Occurrence → Occurrence → Type 0
StandsOnce os o = (front rest : List Occurrence) × (os ≡ front ++ o ∷ rest) × (¬ Contains front o) × (¬ Contains rest o)

-- each occurrence stands once in the overlapping listing
abbrev pub ListingHasEachOnce : Type 0
ListingHasEachOnce =
    (s : Search) (all : List Occurrence) (o : Occurrence) → IsListing s all → Occurs s o → StandsOnce all o

-- whatever the kind, each pick of the walk is in the overlapping listing
abbrev pub PicksAreListed : Type 0
PicksAreListed =
    (kind : MatchKind) (s : Search) (picks all : List Occurrence) (o : Occurrence) → s.anchored ≡ false
    → IsWalk kind s s.start None picks → IsListing s all → Contains picks o → Contains all o

-- where no byte is paired, a text whose patterns are replaced by themselves is unchanged
abbrev pub ReplacingByItselfChangesNothing : Type 0
ReplacingByItselfChangesNothing =
    (kind : MatchKind) (s : Search) (picks : List Occurrence) → IsUnpaired s.pairing → IsWalk kind s 0 None picks
    → replaced_from 0 s.haystack s.patterns picks ≡ s.haystack

-- with no patterns the text is unchanged, and nothing is listed
abbrev pub NoRulesChangeNothing : Type 0
NoRulesChangeNothing =
    (kind : MatchKind) (s : Search) (picks all : List Occurrence) (replacements : List (List ℕ)) → s.patterns ≡ []
    → IsWalk kind s s.start None picks → IsListing s all
    → (replaced_from 0 s.haystack replacements picks ≡ s.haystack) × (listed picks ≡ []) × (listed all ≡ [])

-- a text is a rule file in at most one way
abbrev pub RulesAreOne : Type 0
RulesAreOne = (text : List ℕ) (one other : List Rule) → IsRuleFile text one → IsRuleFile text other → one ≡ other

-- A text has at most one first bad line, and none where it is a rule file.
abbrev pub BadLineIsOne : Type 0
BadLineIsOne =
    ((text : List ℕ) (one other : ℕ) → FirstBadLine text one → FirstBadLine text other → one ≡ other)
    × ((text : List ℕ) (n : ℕ) (rules : List Rule) → IsRuleFile text rules → ¬ FirstBadLine text n)

-- a text has at most one list of rules, and at most one first bad line, and not both
abbrev pub AreOne : (List ℕ → List Rule → Type 0) → (List ℕ → ℕ → Type 0) → Type 0
AreOne holds bad =
    ((text : List ℕ) (one other : List Rule) → holds text one → holds text other → one ≡ other)
    × ((text : List ℕ) (one other : ℕ) → bad text one → bad text other → one ≡ other)
    × ((text : List ℕ) (n : ℕ) (rules : List Rule) → holds text rules → ¬ bad text n)

-- this holds of plain text
abbrev pub TextRulesAreOne : Type 0
TextRulesAreOne = AreOne IsTextRuleFile FirstBadTextLine

-- and of text with escapes, whose sides stand for at most one text each
abbrev pub EscapedRulesAreOne : Type 0
EscapedRulesAreOne =
    AreOne IsEscapedRuleFile FirstBadEscapedLine
    × ((side one other : List ℕ) → Unescapes side one → Unescapes side other → one ≡ other)

-- Two pairings that pair nothing give the same best and the same walks.
abbrev pub UnpairedSearchAlike : Type 0
UnpairedSearchAlike =
    (kind : MatchKind) (s : Search) (one another : List ℕ) → IsUnpaired one → IsUnpaired another
    → ((r : Option Occurrence) → IsBest kind (record s { pairing = one }) r
    ↔ IsBest kind (record s { pairing = another }) r)
    × ((at : ℕ) (last : Option ℕ)
    → walk_after kind (record s { pairing = one }) at last ≡ walk_after kind (record s { pairing = another }) at last)
    × (walk_of kind (record s { pairing = one }) ≡ walk_of kind (record s { pairing = another }))

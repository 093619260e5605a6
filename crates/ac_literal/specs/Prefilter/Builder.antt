-- What is collected of the patterns that a prefilter is built for.
use Rattle.std.specs.Prelude.{◌≡◌, ◌≢◌, ℕ, ◌<◌, ◌≤◌, Bool, true, false, List, [], ◌∷◌, ◌++◌, length, Option, None, Some, IfSome, MatchOption}
use Rattle.std.specs.List.{Contains}
use Rattle.ac_input.specs.declared.search.MatchKind.TheVariants.{Standard}
use Rattle.ac_input.specs.Same.{IsUnpaired}
use Rattle.ac_input.specs.Dictionary.{Dictionary}
use Rattle.ac_input.specs.Limits.{with_pattern}
use Rattle.ac_literal.specs.Packed.{Building, search_kind, fresh, added_all}
use Rattle.ac_literal.specs.Prefilter.Needles.{AreFew}
use Rattle.ac_literal.specs.Prefilter.Strategies.{is_start, AreStarts, AreRareOf, AreFull}
use Rattle.ac_literal.specs.Prefilter.Rare.{IsRareSoFar}
use Rattle.ac_literal.specs.Prefilter.{IsStrategyOf, MemmemServes, PackedServes, AreStartBytes}
use Rattle.ac_literal.specs.declared.prefilter.needles.Needles.{Needles}
use Rattle.ac_literal.specs.declared.prefilter.needles.FewBytes.{FewBytes}
use Rattle.ac_literal.specs.declared.prefilter.strategy.RareBytes.{RareBytes}
use Rattle.ac_literal.specs.declared.prefilter.strategy.Strategy.{Strategy}
use Rattle.ac_literal.specs.declared.prefilter.builder.MemmemBuilder.{MemmemBuilder}
use Rattle.ac_literal.specs.declared.prefilter.builder.MemmemBuilder.TheVariants as memmem_builders
use Rattle.ac_literal.specs.declared.prefilter.builder.Builders.{Builders}

-- what is stored of the patterns for the search for one pattern: nothing, the one pattern, or that there are several
abbrev pub IsMemmemSoFar : List (List ℕ) → MemmemBuilder → Type 0
IsMemmemSoFar patterns memmem_builders.None = patterns ≡ []
IsMemmemSoFar patterns (memmem_builders.One text) = patterns ≡ text.items ∷ []
IsMemmemSoFar patterns memmem_builders.Several = 2 ≤ length patterns

-- the builder of packed search has all patterns; there is no builder under standard, or where a byte is paired
abbrev pub IsPackedSoFar : Dictionary → Option Building → Type 0
IsPackedSoFar m None = (m.kind ≢ Standard) → ¬ IsUnpaired m.pairing
IsPackedSoFar m (Some b) =
    (search_kind b.kind ≡ m.kind) × IsUnpaired m.pairing × (b ≡ added_all (fresh b.kind) m.patterns)

-- what the builders have collected of the dictionary's patterns, none of which is empty
pub record IsCollected (m : Dictionary) (c : Builders) : Type 0 where
  pub full : (p : List ℕ) → Contains m.patterns p → 0 < length p
  pub memmem : IsMemmemSoFar m.patterns c.memmem
  pub packed : IsPackedSoFar m c.packed
  pub starts : AreFew c.start_bytes (is_start m.pairing m.patterns)
  pub rare : IsRareSoFar m.pairing m.patterns c.rare_bytes

-- one more pattern is added for the search for one pattern
abbrev pub AddsMemmem : MemmemBuilder → List ℕ → MemmemBuilder → Type 0
AddsMemmem old p new = (patterns : List (List ℕ)) → IsMemmemSoFar patterns old → IsMemmemSoFar (patterns ++ p ∷ []) new

-- the bytes that one more pattern may begin with are added
abbrev pub AddsStart : List ℕ → FewBytes → List ℕ → FewBytes → Type 0
AddsStart pairing old p new =
    (patterns : List (List ℕ)) → AreFew old (is_start pairing patterns)
    → AreFew new (is_start pairing (patterns ++ p ∷ []))

-- one more pattern is collected
abbrev pub AddsPattern : List ℕ → Builders → List ℕ → Builders → Type 0
AddsPattern pairing old p new =
    (m : Dictionary) → m.pairing ≡ pairing → IsCollected m old → IsCollected (with_pattern m p) new

-- from what is collected, a strategy is built that is right for the dictionary; none only where `asked` doesn't hold of
-- it
abbrev pub BuildsWhere : (Dictionary → Type 0) → List ℕ → Builders → Option Strategy → Type 0
BuildsWhere asked pairing c made =
    (m : Dictionary) → m.pairing ≡ pairing → IsCollected m c → MatchOption made (¬ asked m) (IsStrategyOf m)

-- packed search is built from what is collected, where the search for one pattern doesn't serve; nothing only where
-- packed search doesn't either
abbrev pub BuildsPacked : Builders → Option Strategy → Type 0
BuildsPacked c made =
    (m : Dictionary) → ¬ MemmemServes m → IsCollected m c
    → MatchOption made (¬ (AreFull m.patterns × PackedServes m)) (IsStrategyOf m)

-- the needles are the bytes that patterns may begin with; there are none only where start bytes don't serve
abbrev pub BuildsStartBytes : Builders → Option Needles → Type 0
BuildsStartBytes c made =
    (m : Dictionary) → IsCollected m c
    → MatchOption made (¬ (AreFull m.patterns × ((bytes : List ℕ) × AreStartBytes m bytes))) (AreStarts m)

-- one of two scans is taken, each of them right for the dictionary; none only where there are no start bytes
abbrev pub TakesOne : Option Needles → Option RareBytes → Option Strategy → Type 0
TakesOne starts rare taken =
    (m : Dictionary) → IfSome starts (AreStarts m) → IfSome rare (AreRareOf m)
    → MatchOption taken (starts ≡ None) (IsStrategyOf m)

-- an empty pattern came, or all patterns were collected
abbrev pub IsBuilder : Dictionary → Bool → Builders → Type 0
IsBuilder m true c = (p : List ℕ) × Contains m.patterns p × (length p ≡ 0)
IsBuilder m false c = IsCollected m c

-- Which occurrence is the best of a search.
use Rattle.std.specs.Prelude.{◌≡◌, ◌≢◌, Option, Some, None, Bool, if◌then◌else◌}
use Rattle.std.specs.declared.cmp.Ordering.{Ordering}
use Rattle.std.specs.declared.cmp.Ordering.TheVariants.{Less, Greater}
use Rattle.std.specs.Ordering.{nat_cmp, ordering_then}
use Rattle.ac_input.specs.declared.search.MatchKind.{MatchKind}
use Rattle.ac_input.specs.declared.search.MatchKind.TheVariants.{Standard, LeftmostFirst, LeftmostLongest}
use Rattle.ac_input.specs.Occurrence.{Search, Occurrence, Occurs}

-- The order in which a kind prefers occurrences, the preferred one first. Standard prefers the earliest end, then the
-- earliest start. The leftmost kinds prefer the earliest start, leftmost-longest then the latest end. Ties go to the
-- lowest pattern number.
abbrev pub preference : MatchKind → Occurrence → Occurrence → Ordering
preference Standard a b =
    ordering_then (nat_cmp a.end b.end) (ordering_then (nat_cmp a.start b.start) (nat_cmp a.pattern b.pattern))
preference LeftmostFirst a b = ordering_then (nat_cmp a.start b.start) (nat_cmp a.pattern b.pattern)
preference LeftmostLongest a b =
    ordering_then (nat_cmp a.start b.start) (ordering_then (nat_cmp b.end a.end) (nat_cmp a.pattern b.pattern))

-- the most preferred occurrence among those of which P holds; none where P holds of none
abbrev pub IsLeast : MatchKind → (Occurrence → Type 0) → Option Occurrence → Type 0
IsLeast kind P None = (o : Occurrence) → ¬ P o
IsLeast kind P (Some least) = P least × ((o : Occurrence) → P o → preference kind least o ≢ Greater)

-- the best occurrence of a search, or none where there is none
abbrev pub IsBest : MatchKind → Search → Option Occurrence → Type 0
IsBest kind s r = IsLeast kind (Occurs s) r

-- an earliest search takes the standard best, whatever the kind
abbrev pub asked_kind : MatchKind → Bool → MatchKind
asked_kind kind earliest = if earliest then Standard else kind

-- the occurrence comes after `before` by end, start and number; with no `before`, each one does
abbrev pub IsAfter : Option Occurrence → Occurrence → Type 0
IsAfter None o = Unit {0}
IsAfter (Some before) o = preference Standard before o ≡ Less

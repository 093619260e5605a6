-- All occurrences, in their order.
use Rattle.std.specs.Prelude.{◌≡◌, ◌↔◌, List, [], ◌∷◌, Contains}
use Rattle.std.specs.declared.cmp.Ordering.TheVariants.{Less}
use Rattle.ac_input.specs.declared.search.MatchKind.TheVariants.{Standard}
use Rattle.ac_input.specs.Occurrence.{Search, Occurrence, Occurs}
use Rattle.ac_input.specs.Best.{preference}

-- each occurrence comes before the next by end, start and number
abbrev pub IsRising : List Occurrence → Type 0
IsRising [] = Unit {0}
IsRising (o ∷ []) = Unit {0}
IsRising (o ∷ q ∷ os) = (preference Standard o q ≡ Less) × IsRising (q ∷ os)

-- the list has exactly the occurrences of which P holds, each once, by end, start and number
abbrev pub ListsAll : (Occurrence → Type 0) → List Occurrence → Type 0
ListsAll P os = IsRising os × ((o : Occurrence) → Contains os o ↔ P o)

-- the overlapping listing of a search: every occurrence once
abbrev pub IsListing : Search → List Occurrence → Type 0
IsListing s os = ListsAll (Occurs s) os

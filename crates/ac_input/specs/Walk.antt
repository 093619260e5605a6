-- The matches one after another.
use Rattle.std.specs.Prelude.{◌≡◌, ℕ, ◌+◌, List, [], ◌∷◌, Option, Some, None}
use Rattle.ac_input.specs.declared.search.MatchKind.{MatchKind}
use Rattle.ac_input.specs.Occurrence.{Search, Occurrence, Occurs, starting_at}
use Rattle.ac_input.specs.Best.{IsLeast}

-- the occurrence is empty, and ends where the pick before it ended
abbrev pub Repeats : Option ℕ → Option Occurrence → Type 0
Repeats None r = ⊥
Repeats (Some last) None = ⊥
Repeats (Some last) (Some o) = (o.start ≡ last) × (o.end ≡ last)

-- The next pick of a walk that stands at a place, where `Is` says which occurrences of a search count: the best from
-- there. Where that is empty and ends where the pick before it ended, the walk takes the best from one byte further.
pub data IsPickAmong (Is : Search → Occurrence → Type 0) (kind : MatchKind) (s : Search) (at : ℕ) (last : Option ℕ)
    (r : Option Occurrence) : Type 0 where
  Here : IsLeast kind (Is (starting_at s at)) r → ¬ Repeats last r → IsPickAmong Is kind s at last r
  Further : (b : Option Occurrence) → IsLeast kind (Is (starting_at s at)) b → Repeats last b
      → IsLeast kind (Is (starting_at s (at + 1))) r → IsPickAmong Is kind s at last r

-- the picks of a walk that stands at a place, up to its end: each goes on from the end of the one before
abbrev pub IsWalkAmong : (Search → Occurrence → Type 0) → MatchKind → Search → ℕ → Option ℕ → List Occurrence → Type 0
IsWalkAmong Is kind s at last [] = IsPickAmong Is kind s at last None
IsWalkAmong Is kind s at last (o ∷ os) =
    IsPickAmong Is kind s at last (Some o) × IsWalkAmong Is kind s o.end (Some o.end) os

-- the next pick where every occurrence counts
abbrev pub IsPick : MatchKind → Search → ℕ → Option ℕ → Option Occurrence → Type 0
IsPick kind s at last r = IsPickAmong Occurs kind s at last r

-- the walk where every occurrence counts
abbrev pub IsWalk : MatchKind → Search → ℕ → Option ℕ → List Occurrence → Type 0
IsWalk kind s at last os = IsWalkAmong Occurs kind s at last os

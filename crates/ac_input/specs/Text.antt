-- What is written for the occurrences that were found.
use Rattle.std.specs.Prelude.{ℕ, List, [], ◌∷◌, ◌++◌, drop, get_or, slice_range, decimal}
use Rattle.std.specs.List.{flat_map}
use Rattle.ac_input.specs.Occurrence.{Occurrence}

-- the haystack from a place on, with each occurrence replaced by its pattern's replacement
abbrev pub replaced_from : ℕ → List ℕ → List (List ℕ) → List Occurrence → List ℕ
replaced_from at x replacements [] = drop at x
replaced_from at x replacements (o ∷ os) =
    slice_range x at o.start ++ get_or replacements o.pattern [] ++ replaced_from o.end x replacements os

-- `number SP start SP end LF`
abbrev pub line : Occurrence → List ℕ
line o = decimal o.pattern ++ 32 ∷ (decimal o.start ++ 32 ∷ (decimal o.end ++ 10 ∷ []))

-- a line for each occurrence
abbrev pub listed : List Occurrence → List ℕ
listed os = flat_map line os

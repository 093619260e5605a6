-- Where a text may be cut, so that the part before the cut is final.
use Rattle.std.specs.Prelude.{ℕ, ◌<◌, ◌≤◌, List, length, Contains, false}
use Rattle.ac_input.specs.Occurrence.{Occurrence}
use Rattle.ac_input.specs.Computed.{walk_of}
use Rattle.ac_input.specs.Dictionary.{Dictionary, whole}

-- no pick of the walk crosses the place
abbrev pub IsCut : Dictionary → List ℕ → ℕ → Type 0
IsCut m x k =
    (k ≤ length x) × ((o : Occurrence) → Contains (walk_of m.kind (whole m x false)) o → o.start < k → o.end ≤ k)

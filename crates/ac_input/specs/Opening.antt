-- Where a pattern may begin, by its first bytes alone.
use Rattle.std.specs.Prelude.{ℕ, List, drop, take, false, IsTrue}
use Rattle.ac_input.specs.Same.{same_text}
use Rattle.ac_input.specs.Dictionary.{Dictionary, IsPattern, whole}
use Rattle.ac_input.specs.Occurrence.{Occurrence, Occurs}

-- the text has, at a place, the first `len` bytes of some pattern
abbrev pub IsOpening : Dictionary → ℕ → List ℕ → ℕ → Type 0
IsOpening m len text at =
    (n : ℕ) × (p : List ℕ) × IsPattern m n p × IsTrue (same_text m.pairing (take len p) (take len (drop at text)))

-- no place of the text has the first `len` bytes of a pattern
abbrev pub HasNoOpening : Dictionary → ℕ → List ℕ → Type 0
HasNoOpening m len text = (at : ℕ) → ¬ IsOpening m len text at

-- no pattern occurs in the text
abbrev pub HasNoOccurrence : Dictionary → List ℕ → Type 0
HasNoOccurrence m text = (o : Occurrence) → ¬ Occurs (whole m text false) o

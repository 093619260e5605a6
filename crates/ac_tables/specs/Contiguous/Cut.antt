-- Rising numbers, and how many of them are below a limit.
use Rattle.std.specs.Prelude.{ℕ, ◌<◌, ◌≤◌, List, length, slice_index}

-- each number is greater than those before it
abbrev pub Rise : List ℕ → Type 0
Rise ns = (i j : ℕ) → i < j → j < length ns → slice_index ns i < slice_index ns j

-- the first `count` numbers are below the limit
abbrev pub AreBelow : List ℕ → ℕ → ℕ → Type 0
AreBelow ns limit count = (i : ℕ) → i < count → slice_index ns i < limit

-- the numbers after the first `count` aren't below the limit
abbrev pub AreNotBelow : List ℕ → ℕ → ℕ → Type 0
AreNotBelow ns limit count = (i : ℕ) → count ≤ i → i < length ns → limit ≤ slice_index ns i

-- exactly the first `count` numbers are below the limit
pub record IsCountBelow (ns : List ℕ) (limit count : ℕ) : Type 0 where
  pub within : count ≤ length ns
  pub below : AreBelow ns limit count
  pub past : AreNotBelow ns limit count

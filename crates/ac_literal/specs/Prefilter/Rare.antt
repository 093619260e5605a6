-- How rare bytes are chosen, and what is known about them while patterns come.
use Rattle.std.specs.Prelude.{◌≡◌, ℕ, ◌<◌, ◌≤◌, ◌⊎◌, List, [], ◌∷◌, ◌++◌, length, slice_index, true, IsTrue}
use Rattle.std.specs.List.{Contains}
use Rattle.ac_input.specs.Candidate.{max_distance}
use Rattle.ac_input.specs.Same.{other, same}
use Rattle.ac_literal.specs.Prefilter.Needles.{few_has, few_surely_has}
use Rattle.ac_literal.specs.Prefilter.Strategies.{rare_len_limit, AreDistances, StandsInSome}
use Rattle.ac_literal.specs.declared.prefilter.needles.FewBytes.{FewBytes}
use Rattle.ac_literal.specs.declared.prefilter.rare_bytes.RareBytesBuilder.{RareBytesBuilder}

-- one of these bytes stands in the pattern
abbrev pub HoldsOne : FewBytes → List ℕ → Type 0
HoldsOne these p = (at : ℕ) × (at < length p) × IsTrue (few_has these (slice_index p at))

-- the pattern has, at some place, a byte that is among these, and so is its partner
pub record HoldsFew (pairing : List ℕ) (these : FewBytes) (p : List ℕ) : Type 0 where
  pub at : ℕ
  pub within : at < length p
  pub held : (byte : ℕ) → IsTrue (same pairing (slice_index p at) byte) → IsTrue (few_has these byte)

-- the partner of each of these bytes is one of them, too
abbrev pub IsClosed : List ℕ → FewBytes → Type 0
IsClosed pairing these = (byte : ℕ) → IsTrue (few_has these byte) → IsTrue (few_has these (other pairing byte))

-- The bytes chosen before are kept, and a byte of the pattern is among them, with its partner. Only bytes of the
-- pattern and their partners were added.
pub record IsChosen (pairing : List ℕ) (before : FewBytes) (p : List ℕ) (after : FewBytes) : Type 0 where
  pub kept : (byte : ℕ) → IsTrue (few_has before byte) → IsTrue (few_has after byte)
  pub held : HoldsFew pairing after p
  pub closed : IsClosed pairing after
  pub only : (byte : ℕ) → IsTrue (few_surely_has after byte)
      → IsTrue (few_surely_has before byte) ⊎ ((inner : ℕ) × Contains p inner × IsTrue (same pairing inner byte))

-- the distances grew to cover a pattern that isn't too long, and none grew past the greatest
pub record AreReached (pairing : List ℕ) (before p after : List ℕ) : Type 0 where
  pub grown : (byte : ℕ) → slice_index before byte ≤ slice_index after byte
  pub reach : length p < rare_len_limit → AreDistances pairing after p
  pub near : ((byte : ℕ) → slice_index before byte ≤ max_distance) → (byte : ℕ) → slice_index after byte ≤ max_distance

-- what is known about the rare bytes of some patterns
pub record IsRareSoFar (pairing : List ℕ) (patterns : List (List ℕ)) (rare : RareBytesBuilder) : Type 0 where
  pub short : rare.is_short ≡ true → (p : List ℕ) → Contains patterns p → length p < rare_len_limit
  pub held : (p : List ℕ) → Contains patterns p → HoldsFew pairing rare.few p
  pub reach : rare.is_short ≡ true → (p : List ℕ) → Contains patterns p → AreDistances pairing rare.distances p
  pub near : (byte : ℕ) → slice_index rare.distances byte ≤ max_distance
  pub closed : IsClosed pairing rare.few
  pub known : (byte : ℕ) → IsTrue (few_surely_has rare.few byte) → StandsInSome pairing patterns byte

-- what is known about the rare bytes of some patterns stays true with one more pattern
abbrev pub AddsRare : List ℕ → RareBytesBuilder → List ℕ → RareBytesBuilder → Type 0
AddsRare pairing old p new =
    (patterns : List (List ℕ)) → IsRareSoFar pairing patterns old → IsRareSoFar pairing (patterns ++ p ∷ []) new

-- Replacement with a closure: the values of the destination, one after another.
use Rattle.std.specs.Prelude.{◌≡◌, ℕ, Bool, true, false, List, [], ◌∷◌, ◌++◌, Option, Some, None, drop, slice_range, ◌⊎◌}
use Rattle.ac_input.specs.Occurrence.{Occurrence}

-- A call of the closure. It takes a state, an occurrence, the bytes of the occurrence and the destination; it returns
-- whether to go on (none where it fails), and leaves a state and a destination.
abbrev pub Calls : Type 0 → Type 1
Calls F = F → Occurrence → List ℕ → List ℕ → Option Bool → F → List ℕ → Type 0

-- How a replacement goes on from place `at` of the text, for the occurrences that are left. For each one the bytes
-- before it are appended to the destination, then the closure is called. After the last one, or once the closure
-- returns false, the rest of the text is appended.
abbrev pub IsChain : {F : Type 0} → Calls F → List ℕ → ℕ → List Occurrence → F → List ℕ → F → List ℕ → Type 0
IsChain Call x at [] f old last new = (last ≡ f) × (new ≡ old ++ drop at x)
IsChain {F} Call x at (o ∷ os) f old last new =
    (mid : F) × (answered : List ℕ)
    × ((Call f o (slice_range x o.start o.end) (old ++ slice_range x at o.start) (Some true) mid answered
    × IsChain Call x o.end os mid answered last new)
    ⊎ (Call f o (slice_range x o.start o.end) (old ++ slice_range x at o.start) (Some false) mid answered × (last ≡ mid)
    × (new ≡ answered ++ drop o.end x)))

-- An error ended the chain: an append failed, and appended nothing, or a call of the closure failed.
abbrev pub IsRefusedChain : {F : Type 0} → Calls F → List ℕ → ℕ → List Occurrence → F → List ℕ → F → List ℕ → Type 0
IsRefusedChain Call x at [] f old last new = (last ≡ f) × (new ≡ old)
IsRefusedChain {F} Call x at (o ∷ os) f old last new =
    ((last ≡ f) × (new ≡ old))
    ⊎ Call f o (slice_range x o.start o.end) (old ++ slice_range x at o.start) None last new
    ⊎ ((mid : F) × (answered : List ℕ)
    × ((Call f o (slice_range x o.start o.end) (old ++ slice_range x at o.start) (Some true) mid answered
    × IsRefusedChain Call x o.end os mid answered last new)
    ⊎ (Call f o (slice_range x o.start o.end) (old ++ slice_range x at o.start) (Some false) mid answered × (last ≡ mid)
    × (new ≡ answered))))

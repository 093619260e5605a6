-- What a trie says about the dictionary that it stands for.
use Rattle.std.specs.Prelude.{◌≡◌, ◌↔◌, ℕ, ◌<◌, ◌≤◌, true, List, length, take, slice_get, Option, Some, None}
use Rattle.ac_input.specs.declared.search.MatchKind.TheVariants.{LeftmostFirst}
use Rattle.ac_input.specs.Dictionary.{Dictionary, IsPattern, IsShadowed, IsEntered}
use Rattle.ac_input.specs.Number.{greatest_number}
use Rattle.ac_input.specs.Limits.{canonical_text, PatternNumber, PatternLength, StateNumber, Passes, IsLimitAt}
use Rattle.ac_noncontiguous.specs.declared.trie.State.{State}
use Rattle.ac_noncontiguous.specs.declared.error.BuildErrorKind.{BuildErrorKind}
use Rattle.ac_noncontiguous.specs.declared.error.BuildErrorKind.TheVariants.{StateIDOverflow, PatternIDOverflow, PatternTooLong, Memory}
use Rattle.ac_noncontiguous.specs.Trie.Tree.{depth, text, is_match}

-- Each state stands for a prefix of an entered pattern, in canonical bytes. Each entered pattern ends in the state of
-- its own text; the others are shadowed. The match states are those in which a pattern ends.
pub record HasEntered (m : Dictionary) (states : List State) (ends : List (Option ℕ)) : Type 0 where
  pub counted : length ends ≡ length m.patterns
  pub short : (n : ℕ) (p : List ℕ) → IsPattern m n p → length p ≤ greatest_number
  pub entered : (n id : ℕ) (p : List ℕ) → IsPattern m n p → slice_get ends n ≡ Some (Some id)
      → IsEntered m n p × (id < length states) × (text states id ≡ canonical_text m p)
  pub left_out : (n : ℕ) (p : List ℕ) → IsPattern m n p → slice_get ends n ≡ Some None
      → (m.kind ≡ LeftmostFirst) × IsShadowed m n p
  pub begins : (i : ℕ) → 0 < i → i < length states
      → (n : ℕ) × (p : List ℕ) × IsEntered m n p × (depth states i ≤ length p)
      × (text states i ≡ take (depth states i) (canonical_text m p))
  pub matches : (i : ℕ) → i < length states
      → (is_match states i ≡ true) ↔ ((n : ℕ) × (slice_get ends n ≡ Some (Some i)))

-- why a pattern can't be added: the limit that it passes, or out of memory
abbrev pub IsPatternRefused : Dictionary → List ℕ → BuildErrorKind → Type 0
IsPatternRefused m p (StateIDOverflow max requested) =
    (max ≡ greatest_number) × (max < requested) × Passes m p StateNumber
IsPatternRefused m p (PatternIDOverflow max requested) =
    (max ≡ greatest_number) × (max < requested) × Passes m p PatternNumber
IsPatternRefused m p (PatternTooLong number len) =
    (number ≡ length m.patterns) × (len ≡ length p) × Passes m p PatternLength
IsPatternRefused m p Memory = Unit {0}

-- why the build of a dictionary fails: its first pattern that passes a limit, or out of memory
abbrev pub IsBuildRefused : Dictionary → BuildErrorKind → Type 0
IsBuildRefused m (StateIDOverflow max requested) =
    (max ≡ greatest_number) × (max < requested) × ((n : ℕ) × IsLimitAt m n StateNumber)
IsBuildRefused m (PatternIDOverflow max requested) =
    (max ≡ greatest_number) × (max < requested) × ((n : ℕ) × IsLimitAt m n PatternNumber)
IsBuildRefused m (PatternTooLong number len) =
    IsLimitAt m number PatternLength × ((p : List ℕ) → IsPattern m number p → len ≡ length p)
IsBuildRefused m Memory = Unit {0}

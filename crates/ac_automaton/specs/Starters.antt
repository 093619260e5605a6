-- The bytes that lead from the start to another state, and runs of bytes that hold none of them.
use Rattle.std.specs.Prelude.{◌≡◌, ◌≢◌, ℕ, ◌<◌, ◌≤◌, Bool, true, false, List, length, slice_index}
use Rattle.memchr.specs.Find.{is_byte, is_byte2, is_byte3}
use Rattle.ac_input.specs.Number.{StateID}
use Rattle.ac_input.specs.declared.steps.Steps.{Steps}
use Rattle.ac_input.specs.Steps.{Done}
use Rattle.ac_automaton.specs.declared.starters.Starters.{Starters}
use Rattle.ac_automaton.specs.declared.starters.Starters.TheVariants.{None, One, Two, Three, Many}

-- whether a byte is a starter; if there are many, every byte counts as one
abbrev pub is_starter : Starters → ℕ → Bool
is_starter None byte = false
is_starter (One a) byte = is_byte a byte
is_starter (Two a b) byte = is_byte2 a b byte
is_starter (Three a b c) byte = is_byte3 a b c byte
is_starter Many byte = true

-- a byte that is no starter after the addition was none before, and isn't the byte that was added
abbrev pub AddsStarter : Starters → ℕ → Starters → Type 0
AddsStarter before added after =
    (byte : ℕ) → is_starter after byte ≡ false → (is_starter before byte ≡ false) × (byte ≢ added)

-- each byte below `limit` that is no starter is idle
abbrev pub SkipsBelow : (ℕ → Type 0) → ℕ → Starters → Type 0
SkipsBelow Idle limit starters = (byte : ℕ) → byte < limit → is_starter starters byte ≡ false → Idle byte

-- none of the first `len` bytes is a starter, and the next byte, if there is one, is a starter
pub record IsIdleFront (starters : Starters) (bytes : List ℕ) (len : ℕ) : Type 0 where
  pub within : len ≤ length bytes
  pub idle : (k : ℕ) → k < len → is_starter starters (slice_index bytes k) ≡ false
  pub ends : len < length bytes → is_starter starters (slice_index bytes len) ≡ true

-- The first `passed` bytes are passed over, each with one look, and none of them is a starter. In a state other than
-- the start, none is passed.
pub record PassesIdle (starters : Starters) (start sid : StateID) (bytes : List ℕ) (passed : ℕ)
    (before after : Steps) : Type 0 where
  pub within : passed ≤ length bytes
  pub at : 0 < passed → sid ≡ start
  pub idle : (k : ℕ) → k < passed → is_starter starters (slice_index bytes k) ≡ false
  pub counted : Done passed 0 0 before after

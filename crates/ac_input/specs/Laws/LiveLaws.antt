-- Canonical bytes, shifted occurrences, and the laws of dead texts.
use Rattle.std.specs.Prelude.{◌↔◌, ℕ, ◌+◌, min, Bool, List, ◌++◌, Option, Some, None}
use Rattle.ac_input.specs.Same.{other}
use Rattle.ac_input.specs.Occurrence.{Occurrence}
use Rattle.ac_input.specs.Best.{IsBest, asked_kind}
use Rattle.ac_input.specs.Dictionary.{Dictionary, whole, IsLive}

-- The byte that stands for a byte and its partner: the lesser of the two.
abbrev pub canonical : List ℕ → ℕ → ℕ
canonical pairing byte = min byte (other pairing byte)

-- an occurrence, shifted by this many bytes
abbrev pub shifted : ℕ → Occurrence → Occurrence
shifted bytes o = record { pattern = o.pattern; start = bytes + o.start; end = bytes + o.end }

-- an occurrence shifted by this many bytes, or none where there is none
abbrev pub shifted_best : ℕ → Option Occurrence → Option Occurrence
shifted_best bytes None = None
shifted_best bytes (Some o) = Some (shifted bytes o)

-- a dead text stays dead, whatever follows
abbrev pub DeadStaysDead : Type 0
DeadStaysDead =
    (m : Dictionary) (anchored : Bool) (text more : List ℕ) → IsLive m anchored text None
    → IsLive m anchored (text ++ more) None

-- the best of a dead text, or that it has none, is final
abbrev pub DeadIsFinal : Type 0
DeadIsFinal =
    (m : Dictionary) (anchored earliest : Bool) (text more : List ℕ) (r : Option Occurrence)
    → IsLive m anchored text None
    → IsBest (asked_kind m.kind earliest) (whole m text anchored) r
    ↔ IsBest (asked_kind m.kind earliest) (whole m (text ++ more) anchored) r

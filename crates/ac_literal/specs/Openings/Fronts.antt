-- Where a pattern may open, by its first bytes.
use Rattle.std.specs.Prelude.{◌≢◌, ℕ, List, drop, take, ◌<◌}
use Rattle.ac_input.specs.declared.search.MatchKind.{MatchKind}
use Rattle.ac_input.specs.Dictionary.{dictionary_of}
use Rattle.ac_input.specs.Opening.{IsOpening}
use Rattle.ac_literal.specs.declared.openings.fronts.Fronts.{Fronts}
use Rattle.ac_literal.specs.Openings.Fingerprints.{IsPrinted}
use Rattle.ac_literal.specs.Packed.Teddy.{marked_at}

-- a pattern may open at a place: a bucket is left, and the fingerprint of its first bytes is in the set
pub record MayOpen (f : Fronts) (text : List ℕ) (at : ℕ) : Type 0 where
  pub left : marked_at f.teddy text at ≢ 0
  pub printed : IsPrinted f.prints (take f.len (drop at text))

-- wherever the first `len` bytes of one of these patterns stand, `MayOpen` holds
abbrev pub AreFronts : List (List ℕ) → List ℕ → ℕ → Fronts → Type 0
AreFronts patterns pairing len f =
    (kind : MatchKind) (text : List ℕ) (at : ℕ) → IsOpening (dictionary_of patterns pairing kind) len text at
    → MayOpen f text at

-- no pattern may open at any of the first `passed` places
abbrev pub PassesFronts : Fronts → List ℕ → ℕ → Type 0
PassesFronts f text passed = (at : ℕ) → at < passed → ¬ MayOpen f text at

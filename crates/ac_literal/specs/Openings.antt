-- What openings find: the places at which the first bytes of some pattern stand.
pub mod Fingerprints
pub mod Fronts
pub mod Marks
use Rattle.std.specs.Prelude.{ℕ, List, ◌<◌, length, ◌≤◌, Option, IfSome}
use Rattle.ac_input.specs.declared.search.MatchKind.{MatchKind}
use Rattle.ac_input.specs.Dictionary.{Dictionary, dictionary_of, IsPattern}
use Rattle.ac_input.specs.Opening.{IsOpening}
use Rattle.ac_literal.specs.declared.openings.Openings.{Openings}
use Rattle.ac_literal.specs.declared.openings.Way.{Way}
use Rattle.ac_literal.specs.declared.openings.Way.TheVariants as ways
use Rattle.ac_literal.specs.Grams.{MayStart}
use Rattle.ac_literal.specs.Openings.Fronts.{MayOpen}

-- no pattern may open at a place
abbrev pub CannotOpen : Way → List ℕ → ℕ → Type 0
CannotOpen (ways.Fronts fronts) text at = ¬ MayOpen fronts text at
CannotOpen (ways.Grams grams) text at = ¬ MayStart grams text at

-- The openings are those of a dictionary: each pattern has at least `len` bytes, and wherever some pattern opens,
-- `CannotOpen` does not hold.
pub record AreOpenings (m : Dictionary) (openings : Openings) : Type 0 where
  pub short : ((n : ℕ) (p : List ℕ) → IsPattern m n p → openings.len ≤ length p)
  pub marks : (text : List ℕ) (at : ℕ) → IsOpening m openings.len text at → ¬ CannotOpen openings.way text at

-- whatever dictionary the openings are those of, the copy's are, too
abbrev pub AreCopied : Openings → Openings → Type 0
AreCopied openings copy = (m : Dictionary) → AreOpenings m openings → AreOpenings m copy

-- the same, where there may be none
abbrev pub AreCopiedIfAny : Option Openings → Option Openings → Type 0
AreCopiedIfAny held copy = (m : Dictionary) → IfSome held (AreOpenings m) → IfSome copy (AreOpenings m)

-- the openings are those of these patterns, whatever the kind
abbrev pub OpenAll : List (List ℕ) → List ℕ → Openings → Type 0
OpenAll patterns pairing openings = (kind : MatchKind) → AreOpenings (dictionary_of patterns pairing kind) openings

-- no pattern opens at any of the first `passed` places
abbrev pub PassesOpenings : Openings → List ℕ → ℕ → Type 0
PassesOpenings openings bytes passed =
    (m : Dictionary) → AreOpenings m openings → (at : ℕ) → at < passed → ¬ IsOpening m openings.len bytes at

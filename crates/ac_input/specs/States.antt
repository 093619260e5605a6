-- What the states of an automaton stand for: texts of canonical bytes.
--
-- A state stands for the canonical bytes of the live prefix of what was read, and determines where the next byte leads.
-- If there is a longer state for that byte, the byte leads there. Otherwise the look-up goes on at the failure, which
-- is a shorter state, and so on. So an automaton stores for each state its longer states, its failure and its list of
-- patterns. Failures are computed from the shorter states to the longer ones, by the same steps. The lemmas are in
-- LeadsLemmas; an implementation needs no others for its steps.
use Rattle.std.specs.Prelude.{◌≡◌, ℕ, ◌<◌, map, Bool, List, drop, Option, Some, None}
use Rattle.ac_input.specs.Dictionary.{Dictionary, IsEntered, Begins, IsLive}
use Rattle.ac_input.specs.Laws.LiveLaws.{canonical}
use Rattle.ac_input.specs.Failure.{IsLeastPlace, IsFailure}

-- A text leads from the start of either anchoring to a state: the one that stands for the canonical bytes of its live
-- prefix, or the dead one.
abbrev pub LeadsTo : Dictionary → Bool → List ℕ → Option (List ℕ) → Type 0
LeadsTo m anchored text None = IsLive m anchored text None
LeadsTo m anchored text (Some state) =
    (from : ℕ) × IsLive m anchored text (Some from) × (state ≡ map (canonical m.pairing) (drop from text))

-- A text fails to a state: the one that stands for the canonical bytes of its failure, or the dead one.
abbrev pub FailsTo : Dictionary → List ℕ → Option (List ℕ) → Type 0
FailsTo m text None = IsFailure m text None
FailsTo m text (Some state) =
    (from : ℕ) × IsFailure m text (Some from) × (state ≡ map (canonical m.pairing) (drop from text))

-- the first of the entered patterns that begin with the text
abbrev pub IsFirstBegun : Dictionary → List ℕ → ℕ → Type 0
IsFirstBegun m text n = IsLeastPlace (λ k. (p : List ℕ) × IsEntered m k p × Begins m.pairing text p) (Some n)

-- the first pattern that begins with the one text comes before the first that begins with the other
abbrev pub BeginsBefore : Dictionary → List ℕ → List ℕ → Type 0
BeginsBefore m s t = (a b : ℕ) → IsFirstBegun m s a → IsFirstBegun m t b → a < b

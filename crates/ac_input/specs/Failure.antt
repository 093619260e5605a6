-- Failure links: which part of a text may still grow into the match when the whole of it no longer can, and which
-- patterns the state of a text lists. They are why an automaton needs one state for each beginning of an entered
-- pattern, and no more.
--
-- A state stands for a text that begins an entered pattern, so the state that is reached is the live prefix of the
-- bytes that were read. If the next byte doesn't extend that text to a longer beginning, the byte is tried from the
-- failure. This is the longest part of the text that may still grow into the match. Failures are followed until the
-- byte leads somewhere. Each failure is shorter, so the bytes that it drops pay for the look. The failure of a text is
-- computed from that of the text without its last byte. Under a leftmost kind a text that matches has none.
--
-- A state lists the patterns that are the same as its text, and then what its failure lists. Searches need nothing else
-- of a state, whichever text reached it. Texts that are the same have the same failures and lists, so an automaton may
-- store the canonical bytes of each. The lemmas are in FailureLemmas, AlikeLemmas, TellsLemmas, ShadowLemmas and
-- SomeLemmas.
use Rattle.std.specs.Prelude.{◌↔◌, ℕ, ◌<◌, ◌≤◌, List, [], ◌∷◌, ◌++◌, length, drop, Contains, IsTrue, false, Option, Some, None}
use Rattle.ac_input.specs.Pairing.{IsDistinct}
use Rattle.ac_input.specs.Same.{same_text}
use Rattle.ac_input.specs.Dictionary.{Dictionary, IsEntered, IsAlive}

-- the least place at which P holds, or none where P holds nowhere
abbrev pub IsLeastPlace : (ℕ → Type 0) → Option ℕ → Type 0
IsLeastPlace P None = (at : ℕ) → ¬ P at
IsLeastPlace P (Some at) = P at × ((another : ℕ) → P another → at ≤ another)

-- Where the failure of a text begins: its longest proper suffix that is alive. That suffix begins an entered pattern
-- and, under a leftmost kind, starts no later than the best of the text. Where no proper suffix is alive there is no
-- failure; the empty text has none.
abbrev pub IsFailure : Dictionary → List ℕ → Option ℕ → Type 0
IsFailure m text r = IsLeastPlace (λ at. (1 ≤ at) × IsAlive m false text at) r

-- each number is less than all that come after it
abbrev pub AreRising : List ℕ → Type 0
AreRising [] = Unit {0}
AreRising (n ∷ ns) = ((later : ℕ) → Contains ns later → n < later) × AreRising ns

-- pattern n is entered, and is the same as the text
abbrev pub IsOwn : Dictionary → List ℕ → ℕ → Type 0
IsOwn m text n = (p : List ℕ) × IsEntered m n p × IsTrue (same_text m.pairing p text)

-- the own patterns of a text: the numbers of the entered patterns that are the same as it, each once, in rising order
abbrev pub AreOwn : Dictionary → List ℕ → List ℕ → Type 0
AreOwn m text ns = AreRising ns × ((n : ℕ) → Contains ns n ↔ IsOwn m text n)

-- The list of a text: its own patterns, and then the list of its failure, where it has one.
pub data IsList (m : Dictionary) : List ℕ → List ℕ → Type 0 where
  OwnAlone : (text own : List ℕ) → AreOwn m text own → IsFailure m text None → IsList m text own
  OwnThen : (text own rest : List ℕ) (from : ℕ) → AreOwn m text own → IsFailure m text (Some from)
      → IsList m (drop from text) rest → IsList m text (own ++ rest)

-- each number is that of a pattern and none stands twice, so there are at most as many numbers as patterns
pub record AreOnce (m : Dictionary) (ns : List ℕ) : Type 0 where
  pub known : (n : ℕ) → Contains ns n → n < length m.patterns
  pub once : IsDistinct ns
  pub few : length ns ≤ length m.patterns

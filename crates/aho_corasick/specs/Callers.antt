-- What callers conclude about an automaton: what it finds, and what it makes of a text.
use Rattle.std.specs.Prelude.{◌≡◌, ℕ, ◌+◌, ◌≤◌, true, false, List, length, Option, Some, None}
use Rattle.ac_input.specs.declared.search.MatchKind.{MatchKind}
use Rattle.ac_input.specs.declared.search.MatchKind.TheVariants.{Standard, LeftmostFirst}
use Rattle.ac_input.specs.Computed.{best_of}
use Rattle.ac_input.specs.Dictionary.{Dictionary, IsPattern, Begins, dictionary_of, whole}
use Rattle.ac_input.specs.Occurrence.{Search, Occurrence, Occurs}
use Rattle.ac_input.specs.Pairing.{IsFolded}
use Rattle.ac_input.specs.Same.{IsUnpaired}
use Rattle.ac_automaton.specs.Automaton.{Built}
use Rattle.aho_corasick.specs.AhoCorasick.{HasOccurrence}

-- these patterns are found by standard matches, byte for byte
abbrev pub FindsBytes : List (List ℕ) → Dictionary → Type 0
FindsBytes patterns m = (m.patterns ≡ patterns) × (m.kind ≡ Standard) × IsUnpaired m.pairing

-- these patterns are found by leftmost-first matches, with ASCII letters the same in both cases
abbrev pub FindsFolded : List (List ℕ) → Dictionary → Type 0
FindsFolded patterns m = (m.patterns ≡ patterns) × (m.kind ≡ LeftmostFirst) × IsFolded true m.pairing

-- these patterns are found by matches of this kind, with these bytes paired, and without a prefilter
abbrev pub IsPlain : List (List ℕ) → List ℕ → MatchKind → Built → Type 0
IsPlain patterns pairing kind b = (b.dictionary ≡ dictionary_of patterns pairing kind) × (b.prefilter ≡ None)

-- the first match in a text
abbrev pub first_in : Dictionary → List ℕ → Option Occurrence
first_in m text = best_of m.kind (whole m text false)

-- some pattern occurs in the text
abbrev pub OccursIn : Dictionary → List ℕ → Type 0
OccursIn m text = HasOccurrence (whole m text false)

-- a pattern begins the text
abbrev pub BeginsWithPattern : Dictionary → List ℕ → Type 0
BeginsWithPattern m text = (n : ℕ) × (p : List ℕ) × IsPattern m n p × Begins m.pairing p text

-- a pattern ends where the text ends
abbrev pub EndsWithPattern : Dictionary → List ℕ → Type 0
EndsWithPattern m text = (o : Occurrence) × Occurs (whole m text false) o × (o.end ≡ length text)

-- the place where an occurrence ends first; none if nothing occurs
abbrev pub IsFirstEnd : Search → Option ℕ → Type 0
IsFirstEnd s None = ¬ HasOccurrence s
IsFirstEnd s (Some end) =
    ((o : Occurrence) × Occurs s o × (o.end ≡ end)) × ((o : Occurrence) → Occurs s o → end ≤ o.end)

-- no occurrence has more bytes than these, whatever the text is
abbrev pub IsMostBytes : Dictionary → ℕ → Type 0
IsMostBytes m most = (text : List ℕ) (o : Occurrence) → Occurs (whole m text false) o → o.end ≤ o.start + most

-- a text in which no pattern occurs is unchanged
abbrev pub KeepsUnmatched : Built → List ℕ → List ℕ → Type 0
KeepsUnmatched b text made = ¬ OccursIn b.dictionary text → made ≡ text

-- What the callers can conclude from the library's contracts.
use Rattle.std.specs.Prelude.{◌≡◌, ℕ, ◌+◌, ◌*◌, ◌-◌, ◌≤◌, List, [], ◌∷◌, ◌++◌, map, take, drop, slice_range, option_map, Option, Some, None, String, false}
use Rattle.std.specs.Borrow.{Bor}
use Rattle.std.specs.Global.{Global, Vec}
use Rattle.std.specs.String.{string_bytes}
use Rattle.ac_input.specs.declared.search.MatchKind.{MatchKind}
use Rattle.ac_input.specs.declared.search.Span.{Span}
use Rattle.ac_input.specs.declared.steps.Steps.{Steps}
use Rattle.ac_input.specs.Computed.{best_of}
use Rattle.ac_input.specs.Dictionary.{Dictionary}
use Rattle.ac_input.specs.Laws.Utf8Laws.{AreFullTexts, KeepsChars}
use Rattle.ac_input.specs.Occurrence.{Search, Occurrence, Occurs}
use Rattle.ac_literal.specs.Packed.{in_whole}
use Rattle.ac_automaton.specs.Automaton.{Built}
use Rattle.ac_automaton.specs.InMemory.Replace.{text_matches_in}
use Rattle.ac_automaton.specs.Stream.{Picks, StreamProgress, fresh_progress}
use Rattle.ac_automaton.specs.Stream.Iter.{progress_of, reader_of}
use Rattle.ac_automaton.specs.Stream.Replace.{replaced_in}
use Rattle.ac_automaton.specs.declared.stream.StreamIter.{StreamIter}
use Rattle.ac_automaton.specs.declared.stream.devices.watched.Watched.{Watched}
use Rattle.aho_corasick.specs.AhoCorasick.{HasOccurrence}
use Rattle.aho_corasick.specs.Callers.{first_in}

-- at most two looks at states for each of so many bytes
abbrev pub TwoLooks : Steps → Steps → ℕ → Type 0
TwoLooks old new bytes = new.looked.value ≤ old.looked.value + 2 * bytes

-- the best occurrence of these patterns in a text, by this kind
abbrev pub IsBestOf : MatchKind → List (List ℕ) → List ℕ → Option Occurrence → Type 0
IsBestOf kind patterns text found = found ≡ best_of kind (in_whole patterns text)

-- an occurrence lies in a span
abbrev pub LiesIn : Span → Occurrence → Type 0
LiesIn span o = (span.start ≤ o.start) × (o.end ≤ span.end)

-- no pattern is empty, each is a text, and a character is paired only with characters of as many bytes
pub record FindsTexts (m : Dictionary) : Type 0 where
  pub patterns : AreFullTexts m.patterns
  pub pairing : KeepsChars m.pairing

-- the part of a text that its first match covers, or none where it has no match
abbrev pub IsFirstPart : Dictionary → List ℕ → Option (Bor (List ℕ)) → Type 0
IsFirstPart m text part =
    option_map (λ p. p.now) part ≡ option_map (λ o. slice_range text o.start o.end) (first_in m text)

-- how many bytes these occurrences cover, each counted by itself
abbrev pub bytes_in : List Occurrence → ℕ
bytes_in [] = 0
bytes_in (o ∷ os) = (o.end - o.start) + bytes_in os

-- the text with its first match replaced
abbrev pub with_first : List ℕ → List ℕ → List Occurrence → List ℕ
with_first text replacement [] = text
with_first text replacement (o ∷ os) = take o.start text ++ replacement ++ drop o.end text

-- the destination gained the text, with its first match replaced
abbrev pub AddsOne : Built → List ℕ → List ℕ → String Global → String Global → Type 0
AddsOne b text replacement old new =
    string_bytes new ≡ string_bytes old ++ with_first text replacement (text_matches_in b text)

-- the writer has taken the text, with each match replaced
abbrev pub Rewrites : Built → List (Bor (List ℕ)) → List ℕ → Watched (Vec ℕ) → Watched (Vec ℕ) → Type 0
Rewrites b replacements text old new =
    new.inner.items ≡ old.inner.items ++ replaced_in b (map (λ r. r.now) replacements) text

-- the search has read nothing yet of a reader that gives this text
abbrev pub HasToRead : StreamIter (StreamProgress Picks) (Bor (List ℕ)) → List ℕ → Type 0
HasToRead i text =
    (progress_of i ≡ fresh_progress (progress_of i).built) × ((reader_of i).ended ≡ false)
    × ((reader_of i).inner.now ≡ text)

-- No occurrence begins before the place. Where there is no place, there is no occurrence.
abbrev pub IsSkip : Search → Option ℕ → Type 0
IsSkip s None = ¬ HasOccurrence s
IsSkip s (Some place) = (o : Occurrence) → Occurs s o → place ≤ o.start

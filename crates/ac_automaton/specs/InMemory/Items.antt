-- What holds of the matches of an input, whichever call returns them: where they lie, and how many there are at most.
use Rattle.std.specs.Prelude.{◌+◌, ◌*◌, ◌<◌, ◌≤◌, List, length, Option, Result, IfOk, IfSome}
use Rattle.std.specs.Iterator.{YieldsFirst}
use Rattle.std.specs.Iterator.Runs.{EachRunFrom, AllItems}
use Rattle.ac_input.specs.Dictionary.{Dictionary}
use Rattle.ac_input.specs.Input.{Asked}
use Rattle.ac_input.specs.Occurrence.{Occurrence}
use Rattle.ac_automaton.specs.Automaton.{Built}
use Rattle.ac_automaton.specs.InMemory.Iter.{Walk, left_of}
use Rattle.ac_automaton.specs.InMemory.Overlapping.OverlappingIter.{Run, rest_of}
use Rattle.ac_automaton.specs.InMemory.Replace.{LieInOrder}
use Rattle.ac_automaton.specs.declared.error.MatchErrorKind.{MatchErrorKind}

-- an occurrence of one of the patterns, within the haystack and the span of the input
pub record LiesWithin (m : Dictionary) (asked : Asked) (o : Occurrence) : Type 0 where
  pub pattern : o.pattern < length m.patterns
  pub order : o.start ≤ o.end
  pub within : o.end ≤ length asked.haystack
  pub span : (asked.span.start ≤ o.start) × (o.end ≤ asked.span.end)

-- the match that a find returns, if it returns one, lies in the input
abbrev pub FindsWithin : Dictionary → Asked → Result (Option Occurrence) MatchErrorKind → Type 0
FindsWithin m asked r = IfOk r (λ found. IfSome found (LiesWithin m asked))

-- each item that an iterator returns lies in the input; `rest` lists the items that are left
abbrev pub EachLiesWithin : {S : Type 0} → (S → List Occurrence) → Built → Asked → S → Type 0
EachLiesWithin rest b asked s = EachRunFrom (YieldsFirst rest) s (λ p. AllItems p (LiesWithin b.dictionary asked))

-- each match of a walk lies in the input, and begins where the one before it ended or later
abbrev pub MatchesAreInOrder : Built → Asked → Walk → Type 0
MatchesAreInOrder b asked w =
    EachLiesWithin left_of b asked w
    × LieInOrder (length b.dictionary.patterns) (length asked.haystack) asked.span.start (left_of w)

-- a run returns at most one occurrence of each pattern for each place of the haystack, including its end
abbrev pub AreFewForEach : Built → Asked → Run → Type 0
AreFewForEach b asked run = length (rest_of run) ≤ length b.dictionary.patterns * (length asked.haystack + 1)

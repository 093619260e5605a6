-- What a search for one match requires if it uses what was read ahead of it.
use Rattle.std.specs.Prelude.{◌≡◌, ℕ, ◌≤◌, [], List, take, Option, None, Some}
use Rattle.ac_input.specs.Number.{StateID}
use Rattle.ac_input.specs.declared.search.Anchored.TheVariants.{No}
use Rattle.ac_input.specs.Input.{Asked}
use Rattle.ac_input.specs.Work.{shortest}
use Rattle.ac_input.specs.Occurrence.{Occurrence}
use Rattle.ac_automaton.specs.Ahead.{IsAhead, bytes_ahead}
use Rattle.ac_automaton.specs.Automaton.{kind_asked}
use Rattle.ac_automaton.specs.declared.ahead.Ahead.{Ahead}
use Rattle.ac_automaton.specs.declared.automaton.Automaton.{Ghosts}

-- The search is of the automaton's kind and isn't anchored, it begins in this state, and no pattern is empty.
pub record MayReadAhead {S : Type 0} (A : Ghosts S) (automaton : S) (asked : Asked) (start : StateID) : Type 0 where
  pub kind : kind_asked (A.built automaton) asked ≡ (A.built automaton).dictionary.kind
  pub filled : 1 ≤ shortest (A.built automaton).dictionary.patterns
  pub free : asked.anchored ≡ No
  pub starts : A.Reaches automaton No [] start

-- what was read ahead of an unanchored search that stands at a place of the bytes in a state
abbrev pub IsAheadOf : {S : Type 0} → Ghosts S → S → Option StateID → List ℕ → ℕ → StateID → Ahead → Type 0
IsAheadOf A automaton anew bytes at sid ahead =
    IsAhead (A.built automaton) (A.Reaches automaton No) (A.matches automaton) anew bytes at sid ahead

-- what was read ahead of a search that begins at a place of an input's span, in a start state
abbrev pub IsAheadIn : {S : Type 0} → Ghosts S → S → Asked → StateID → ℕ → Ahead → Type 0
IsAheadIn A automaton asked start at ahead =
    IsAheadOf A automaton (Some start) (take asked.span.end asked.haystack) at start ahead

-- where a search of an input is over: at its match's end, or at the span's where there is none
abbrev pub ended_at : Asked → Option Occurrence → ℕ
ended_at asked None = asked.span.end
ended_at asked (Some o) = o.end

-- A walk over an input that stands at a place and reads ahead, if it does, with searches that begin in this state;
-- otherwise nothing was read ahead.
abbrev pub ReadsAheadFrom : {S : Type 0} → Ghosts S → S → Option StateID → Asked → ℕ → Ahead → Type 0
ReadsAheadFrom A automaton None asked at ahead = bytes_ahead ahead ≡ 0
ReadsAheadFrom A automaton (Some start) asked at ahead =
    MayReadAhead A automaton asked start × IsAheadIn A automaton asked start at ahead

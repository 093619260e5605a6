-- How a part of a search ends, what a prefilter's result means for it, and what that costs.
pub mod Ahead
pub mod Cursor
use Rattle.std.specs.Prelude.{◌≡◌, ◌≢◌, ◌⊎◌, ℕ, ◌+◌, ◌-◌, ◌*◌, ◌<◌, ◌≤◌, Bool, List, [], Option, None, Some}
use denote.Ref.{Bor}
use Rattle.ac_input.specs.Number.{StateID}
use Rattle.ac_input.specs.declared.search.Anchored.{Anchored}
use Rattle.ac_input.specs.declared.search.Anchored.TheVariants.{No, Yes}
use Rattle.ac_input.specs.declared.search.MatchKind.{MatchKind}
use Rattle.ac_input.specs.declared.search.MatchKind.TheVariants.{Standard}
use Rattle.ac_input.specs.declared.steps.Steps.{Steps}
use Rattle.ac_input.specs.Best.{IsBest}
use Rattle.ac_input.specs.Candidate.{Filter}
use Rattle.ac_input.specs.Input.{Asked}
use Rattle.ac_input.specs.Occurrence.{Search, Occurrence, Occurs, starting_at}
use Rattle.ac_input.specs.Work.{HasCounted, IsFindWork, come_at_least, lookups_per_byte}
use Rattle.ac_automaton.specs.Automaton.{AtEach, Built, StartIsEmpty, kind_asked, prefilter_for, searched}
use Rattle.ac_automaton.specs.declared.automaton.Automaton.{Ghosts}
use Rattle.ac_automaton.specs.declared.in_memory.find.cursor.End.{End}
use Rattle.ac_automaton.specs.declared.in_memory.find.cursor.End.TheVariants.{Found, Idle}

-- How a walk from the start of the span ends: with the result of the search; or back at the start state, at a place
-- before which no occurrence begins.
abbrev pub EndSays : MatchKind → Search → End (Option Occurrence) → Type 0
EndSays kind s (Found r) = IsBest kind s r
EndSays kind s (Idle at) = (s.start < at) × (at ≤ s.end) × ((o : Occurrence) → Occurs s o → at ≤ o.start)

-- how a walk that begins at a given place of an input's span ends
abbrev pub WalkSays : Built → Asked → ℕ → End (Option Occurrence) → Type 0
WalkSays b asked at end = EndSays (kind_asked b asked) (starting_at (searched b asked) at) end

-- what a walk may cost: it scans nothing
abbrev pub IsWalkWork : MatchKind → Bool → Search → End (Option Occurrence) → Steps → Steps → Type 0
IsWalkWork kind deterministic s (Found r) before after =
    IsFindWork kind deterministic s r before after × (after.scanned.value ≡ before.scanned.value)
IsWalkWork kind deterministic s (Idle at) before after =
    (after.looked.value ≤ before.looked.value + lookups_per_byte deterministic * (at - s.start))
    × (after.scanned.value ≡ before.scanned.value) × (after.moved.value ≡ before.moved.value)

-- what a walk that begins at a given place may cost
abbrev pub IsWalkCost : Built → Asked → ℕ → End (Option Occurrence) → Steps → Steps → Type 0
IsWalkCost b asked at end before after =
    IsWalkWork (kind_asked b asked) b.deterministic (starting_at (searched b asked) at) end before after

-- how far a walk with this end has come at least
abbrev pub come_by : Search → End (Option Occurrence) → ℕ
come_by s (Found r) = come_at_least s r
come_by s (Idle at) = at

-- a walk from a given place looks at a state for each byte that it passes
abbrev pub WalkLooks : Built → Asked → ℕ → End (Option Occurrence) → Steps → Steps → Type 0
WalkLooks b asked at end before after =
    before.looked.value + (come_by (starting_at (searched b asked) at) end - at) ≤ after.looked.value

-- a place of the span from which the search may go on: no occurrence begins before it
pub record MayGoOnFrom (s : Search) (at : ℕ) : Type 0 where
  pub behind : s.start ≤ at
  pub within : at ≤ s.end
  pub none : (o : Occurrence) → Occurs s o → at ≤ o.start

-- what a prefilter's result means: the result of the search; or a place where the search goes on, and no occurrence
-- begins before
abbrev pub CandidateSays : MatchKind → Search → End (Option Occurrence) → Type 0
CandidateSays kind s (Found r) = IsBest kind s r
CandidateSays kind s (Idle at) = MayGoOnFrom s at

-- What a call of a prefilter costs. No state is looked at. The scanned places lie in the span, before the end of every
-- occurrence.
-- If the search goes on at a place, the last scanned one is at most 254 after it.
pub record IsCandidateWork (s : Search) (told : End (Option Occurrence)) (before after : Steps) : Type 0 where
  pub looked : after.looked.value ≡ before.looked.value
  pub within : after.scanned.value + s.start ≤ before.scanned.value + s.end
  pub before_ends : (o : Occurrence) → Occurs s o → after.scanned.value + s.start ≤ before.scanned.value + o.end
  pub near : (at : ℕ) → told ≡ Idle at → after.scanned.value + s.start ≤ before.scanned.value + at + 255
  pub moved : after.moved.value ≡ before.moved.value

-- what a search may have cost when it has come to a place
pub record IsWorkTo (deterministic : Bool) (s : Search) (at : ℕ) (before after : Steps) : Type 0 where
  pub looked : after.looked.value ≤ before.looked.value + lookups_per_byte deterministic * (at - s.start)
  pub scanned : after.scanned.value ≤ before.scanned.value + 256 * (at - s.start)
  pub moved : after.moved.value ≡ before.moved.value

-- what a call of the prefilter and the walk after it may cost together
abbrev pub IsSearchWork : MatchKind → Bool → Search → End (Option Occurrence) → Steps → Steps → Type 0
IsSearchWork kind deterministic s (Found r) before after = IsFindWork kind deterministic s r before after
IsSearchWork kind deterministic s (Idle at) before after = IsWorkTo deterministic s at before after

-- what a call of the prefilter at a given place and the walk after it may cost together
abbrev pub IsSearchCost : Built → Asked → ℕ → End (Option Occurrence) → Steps → Steps → Type 0
IsSearchCost b asked at end before after =
    IsSearchWork (kind_asked b asked) b.deterministic (starting_at (searched b asked) at) end before after

-- a call of the prefilter and the walk after it count each byte that they pass
abbrev pub SearchCounts : Built → Asked → ℕ → End (Option Occurrence) → Steps → Steps → Type 0
SearchCounts b asked at end before after =
    HasCounted (prefilter_for b asked.anchored) (come_by (starting_at (searched b asked) at) end - at) before after

-- a prefilter that scans for bytes counts each byte that it passes as a scanned place
abbrev pub CandidateCounts : Filter → Built → Asked → ℕ → End (Option Occurrence) → Steps → Steps → Type 0
CandidateCounts f b asked at told before after =
    f.needles ≢ [] → before.scanned.value + (come_by (starting_at (searched b asked) at) told - at)
    ≤ after.scanned.value

-- what a prefilter's result means for an input's search from a given place, and what the call costs
abbrev pub CandidateEnds : Built → Asked → ℕ → End (Option Occurrence) → Type 0
CandidateEnds b asked at told = CandidateSays (kind_asked b asked) (starting_at (searched b asked) at) told

abbrev pub IsCandidateCost : Built → Asked → ℕ → End (Option Occurrence) → Steps → Steps → Type 0
IsCandidateCost b asked at told before after = IsCandidateWork (starting_at (searched b asked) at) told before after

-- The prefilter that a search may use: the automaton's own, if the search isn't anchored and no pattern matches at the
-- start;
-- otherwise none.
abbrev pub IsUsable : Built → (StateID → List ℕ) → Anchored → StateID → Option (Bor Filter) → Type 0
IsUsable b matches anchored start (Some p) =
    (p.now.dictionary ≡ b.dictionary) × (anchored ≡ No) × (matches start ≡ []) × (b.prefilter ≡ Some p.now)
IsUsable b matches anchored start None = (anchored ≡ Yes) ⊎ (matches start ≢ []) ⊎ (b.prefilter ≡ None)

-- A find of fewer bytes runs no prefilter.
abbrev pub least_filtered : ℕ
least_filtered = 64

-- an input of so few bytes that a find of it runs no prefilter
abbrev pub IsShort : Asked → Type 0
IsShort asked = asked.span.end - asked.span.start < least_filtered

-- A search meets no match before it has read a byte: it isn't anchored, the start doesn't match, and there are bytes.
pub record StartsQuiet {S : Type 0} (A : Ghosts S) (automaton : S) (asked : Asked) (start : StateID) : Type 0 where
  pub free : asked.anchored ≡ No
  pub some : asked.span.start < asked.span.end
  pub quiet : ¬ (A.matches automaton start ≢ [])

-- If a search is back at a start where no pattern matches, none of the bytes read is live.
abbrev pub BackIsEmpty : {S : Type 0} → Ghosts S → S → StateID → Bool → Type 0
BackIsEmpty A automaton sid back =
    AtEach (A.Reaches automaton) sid (StartIsEmpty (A.built automaton) (A.matches automaton sid) back)

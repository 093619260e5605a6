-- What an overlapping search still has to show where it stands, and what its calls may cost in total.
pub mod OverlappingIter
pub mod OverlappingSearch
use Rattle.std.specs.Prelude.{◌≡◌, ◌≢◌, ◌⊎◌, ℕ, ◌+◌, ◌-◌, ◌*◌, ◌<◌, ◌≤◌, nat_le, Bool, false, List, [], ◌∷◌, ◌++◌, map, drop, take, slice_get, IsTrue, Option, None, Some, Result, Ok, Err, is_some, filter, if◌then◌else◌}
use Rattle.ac_input.specs.Number.{StateID}
use Rattle.ac_input.specs.declared.search.Anchored.{Anchored}
use Rattle.ac_input.specs.declared.search.MatchKind.TheVariants.{Standard}
use Rattle.ac_input.specs.declared.steps.Steps.{Steps}
use Rattle.ac_input.specs.Computed.{listing_of}
use Rattle.ac_input.specs.Input.{Asked}
use Rattle.ac_input.specs.Laws.LiveLaws.{shifted}
use Rattle.ac_input.specs.Dictionary.{Dictionary, IsLive, live_len}
use Rattle.ac_input.specs.Occurrence.{Search, Occurrence, starting_at}
use Rattle.ac_input.specs.Steps.{AreNone}
use Rattle.ac_input.specs.Tells.{ending}
use Rattle.ac_input.specs.Work.{CountsBytes, bytes_counted, come_at_least, lookups_per_byte}
use Rattle.ac_automaton.specs.Ahead.{IsAhead, bytes_ahead}
use Rattle.ac_automaton.specs.Automaton.{Built, listing_in, prefilter_for, searched, refusal_of}
use Rattle.ac_automaton.specs.InMemory.Find.Cursor.{read_to, walked, counted, IsCursor}
use Rattle.ac_automaton.specs.declared.ahead.Ahead.{Ahead}
use Rattle.ac_automaton.specs.declared.error.MatchErrorKind.{MatchErrorKind}
use Rattle.ac_automaton.specs.declared.error.MatchErrorKind.TheVariants.{UnsupportedOverlapping}
use Rattle.ac_automaton.specs.declared.in_memory.overlapping.OverlappingState.{OverlappingState}
use Rattle.ac_automaton.specs.declared.in_memory.overlapping.Position.{Position}
use Rattle.ac_automaton.specs.declared.in_memory.overlapping.Position.TheVariants.{At, Over}
use Rattle.ac_automaton.specs.declared.in_memory.find.cursor.Cursor.{Cursor}
use Rattle.ac_automaton.specs.declared.in_memory.find.cursor.End.{End}
use Rattle.ac_automaton.specs.declared.in_memory.find.cursor.End.TheVariants.{Found, Idle}
use Rattle.ac_automaton.specs.declared.in_memory.overlapping.Shown.{Shown}

-- the occurrences of the listing that end at a place or later
abbrev pub ending_from : Search → ℕ → List Occurrence
ending_from s at = filter (λ o. nat_le at o.end) (listing_of s)

-- the occurrences at a place that a state's list gives from an index on
abbrev pub occurrences_from : Dictionary → Search → ℕ → List ℕ → ℕ → List Occurrence
occurrences_from m s at ns index =
    map (shifted s.start) (map (ending m (read_to s at)) (counted m s.anchored (at - s.start) (drop index ns)))

-- the first occurrence that a state's list gives from an index on, if any, and where the search stands after it
abbrev pub TellsFirst : (StateID → List ℕ) → Dictionary → Search → Cursor → ℕ → Option Shown → Type 0
TellsFirst matches m s cursor index None =
    occurrences_from m (walked s cursor) cursor.at (matches cursor.sid) index ≡ []
TellsFirst matches m s cursor index (Some shown) =
    (o : Occurrence) × (next : ℕ) × (shown.found ≡ Some o) × (shown.place ≡ At cursor.sid cursor.from cursor.at next)
    × (occurrences_from m (walked s cursor) cursor.at (matches cursor.sid) index
    ≡ o ∷ occurrences_from m (walked s cursor) cursor.at (matches cursor.sid) next)

-- What is still to be shown of the listing where a search stands: the occurrences of its state from an index on, and
-- all that end later.
abbrev pub IsLeft : (List ℕ → StateID → Type 0) → (StateID → List ℕ) → Dictionary → Search → Position → List Occurrence
    → Type 0
IsLeft Reaches matches m s (At sid from at index) left =
    IsCursor Reaches s (record { sid = sid; from = from; at = at })
    × (left ≡ occurrences_from m (starting_at s from) at (matches sid) index
    ++ ending_from (starting_at s from) (at + 1))
IsLeft Reaches matches m s Over left = left ≡ []

-- how far a search that stands here has come at least; an anchored one may be over at any place
abbrev pub stands_at_least : Search → Position → ℕ
stands_at_least s (At sid from at index) = at
stands_at_least s Over = come_at_least s None

-- A call showed the first occurrence that was left, if there was one, and the search has come to the end of that.
abbrev pub ShowsFirst : (List ℕ → StateID → Type 0) → (StateID → List ℕ) → Dictionary → Search → List Occurrence → Shown
    → Type 0
ShowsFirst Reaches matches m s left r =
    (r.found ≡ slice_get left 0) × IsLeft Reaches matches m s r.place (drop 1 left)
    × (come_at_least s r.found ≡ stands_at_least s r.place)

-- This many looks are paid for by the bytes up to a place of the span.
abbrev pub IsPaidTo : Bool → Search → ℕ → ℕ → Type 0
IsPaidTo deterministic s at looks = looks ≤ lookups_per_byte deterministic * (at - s.start)

-- The bytes up to where a walk stands pay for this many looks, and for one more for each byte that is live there.
abbrev pub IsPaidAt : Dictionary → Bool → Search → ℕ → ℕ → ℕ → Type 0
IsPaidAt m deterministic s from at looks =
    (live : Option ℕ) → IsLive m s.anchored (read_to (starting_at s from) at) live
    → (looks + live_len (read_to (starting_at s from) at) live ≤ 2 * (at - s.start))
    × (IsTrue deterministic → looks ≤ at - s.start)

-- the bytes up to where a search stands pay for this many looks
abbrev pub IsPlacePaid : Dictionary → Bool → Search → Position → ℕ → Type 0
IsPlacePaid m deterministic s (At sid from at index) looks = IsPaidAt m deterministic s from at looks
IsPlacePaid m deterministic s Over looks = IsPaidTo deterministic s s.end looks

-- how far a search has come
abbrev pub come_to : Search → Position → ℕ
come_to s (At sid from at index) = at
come_to s Over = s.end

-- A call stays within the budget: if looks and scans are paid for before it, they still are with its own added. It
-- moves no byte.
pub record KeepsBudget (m : Dictionary) (deterministic : Bool) (s : Search) (from to : Position)
    (before after : Steps) : Type 0 where
  pub looks : (looks more : ℕ) → IsPlacePaid m deterministic s from looks
      → looks + after.looked.value ≡ more + before.looked.value → IsPlacePaid m deterministic s to more
  pub scans : (scans more : ℕ) → (scans ≤ 256 * ((come_to s from) - s.start))
      → scans + after.scanned.value ≡ more + before.scanned.value → (more ≤ 256 * ((come_to s to) - s.start))
  pub moved : after.moved.value ≡ before.moved.value

-- a search stands after a place, or is over
abbrev pub IsPast : ℕ → Position → Type 0
IsPast place (At sid from at index) = place < at
IsPast place Over = Unit {0}

-- The search may begin anew at a start, without what was read: it isn't anchored, and no pattern matches at a start.
abbrev pub CanRestart : (List ℕ → StateID → Type 0) → (StateID → List ℕ) → Search → Type 0
CanRestart Reaches matches s = (s.anchored ≡ false) × ((start : StateID) → Reaches [] start → matches start ≡ [])

-- How reading on from a place ends: the first occurrence left is shown; or the walk is back at the start at a later
-- place. Then all that is left begins there or later, and the search may begin anew.
abbrev pub ReadsOn : (List ℕ → StateID → Type 0) → (StateID → List ℕ) → Dictionary → Search → ℕ → List Occurrence
    → End Shown → Type 0
ReadsOn Reaches matches m s at left (Found shown) = ShowsFirst Reaches matches m s left shown × IsPast at shown.place
ReadsOn Reaches matches m s at left (Idle to) =
    (at < to) × (to ≤ s.end) × (left ≡ listing_of (starting_at s to)) × CanRestart Reaches matches s

-- this many looks are paid for where reading on ends
abbrev pub IsPaidBy : Dictionary → Bool → Search → End Shown → ℕ → Type 0
IsPaidBy m deterministic s (Found shown) looks = IsPlacePaid m deterministic s shown.place looks
IsPaidBy m deterministic s (Idle to) looks = IsPaidTo deterministic s to looks

-- how far a search has come where reading on ends
abbrev pub read_on_to : Search → End Shown → ℕ
read_on_to s (Found shown) = come_to s shown.place
read_on_to s (Idle to) = to

-- how far a search has come at least where reading on ends
abbrev pub read_at_least : Search → End Shown → ℕ
read_at_least s (Found shown) = stands_at_least s shown.place
read_at_least s (Idle to) = to

-- What it costs to read on from a place, from one candidate to the next: looks stay paid for, at most 256 places are
-- scanned for each byte, and no byte is moved.
pub record IsSkipCost (m : Dictionary) (deterministic : Bool) (s : Search) (at : ℕ) (reading : End Shown)
    (before after : Steps) : Type 0 where
  pub rose : before.looked.value ≤ after.looked.value
  pub looks : (looks more : ℕ) → IsPaidTo deterministic s at looks
      → looks + after.looked.value ≡ more + before.looked.value → IsPaidBy m deterministic s reading more
  pub scans : after.scanned.value ≤ before.scanned.value + 256 * (read_on_to s reading - at)
  pub moved : after.moved.value ≡ before.moved.value

-- states were looked at, and nothing else was done
pub record OnlyLooked (before after : Steps) : Type 0 where
  pub rose : before.looked.value ≤ after.looked.value
  pub scanned : after.scanned.value ≡ before.scanned.value
  pub moved : after.moved.value ≡ before.moved.value

-- the number, and one more if there is an occurrence
abbrev pub and_one : Option Occurrence → ℕ → ℕ
and_one found n = if is_some found then n + 1 else n

-- What all calls with one state may cost: they look at no more states than one search does, whatever they show, and
-- scan for no more bytes.
pub record IsOverlappingWork (deterministic : Bool) (s : Search) (sums : Steps) : Type 0 where
  pub looked : sums.looked.value ≤ lookups_per_byte deterministic * (s.end - s.start)
  pub scanned : sums.scanned.value ≤ 256 * (s.end - s.start)
  pub moved : sums.moved.value ≡ 0

abbrev pub IsOverlappingCost : Built → Asked → Steps → Type 0
IsOverlappingCost b asked sums = IsOverlappingWork b.deterministic (searched b asked) sums

-- nothing was searched with the state yet
pub record IsFreshState (state : OverlappingState) : Type 0 where
  pub place : state.place ≡ None
  pub shown : state.shown.value ≡ 0
  pub sums : AreNone state.sums

-- What was read ahead of an unanchored search that stands at a position, of the haystack up to the end of the span.
-- Nothing is left of it where the search is over.
abbrev pub IsAheadOfPosition : Built → (List ℕ → StateID → Type 0) → (StateID → List ℕ) → Asked → Position → Ahead
    → Type 0
IsAheadOfPosition b Reaches matches asked (At sid from at index) ahead =
    IsAhead b Reaches matches None (take asked.span.end asked.haystack) at sid ahead
IsAheadOfPosition b Reaches matches asked Over ahead = bytes_ahead ahead ≡ 0

-- This many occurrences of the listing were shown, the others are left where the search stands, and all looks and scans
-- are paid for.
pub record StandsAt (Reaches : List ℕ → StateID → Type 0) (matches : StateID → List ℕ) (m : Dictionary)
    (deterministic : Bool) (s : Search) (place : Position) (shown : ℕ) (sums : Steps) : Type 0 where
  pub left : IsLeft Reaches matches m s place (drop shown (listing_of s))
  pub paid : IsPlacePaid m deterministic s place sums.looked.value
  pub scanned : (sums.scanned.value ≤ 256 * ((come_to s place) - s.start))
  pub moved : sums.moved.value ≡ 0

-- each byte of the span up to a place is among those that were counted
abbrev pub IsCountedTo : Built → Asked → ℕ → Steps → Type 0
IsCountedTo b asked at sums =
    CountsBytes (prefilter_for b asked.anchored)
    → at - asked.span.start ≤ bytes_counted (prefilter_for b asked.anchored) sums.looked.value sums.scanned.value

-- A state that is fresh, or that came only from earlier calls with the same automaton and input.
abbrev pub CameFrom : Built → (Anchored → List ℕ → StateID → Type 0) → (StateID → List ℕ) → Asked → OverlappingState
    → Type 0
CameFrom b Reaches matches asked state =
    IsFreshState state
    ⊎ ((place : Position) × (state.place ≡ Some place)
    × StandsAt (Reaches asked.anchored) matches b.dictionary b.deterministic (searched b asked) place state.shown.value
    state.sums
    × IsCountedTo b asked (stands_at_least (searched b asked) place) state.sums)

-- All calls with a state together counted each byte of the span up to the end of the last occurrence shown. If nothing
-- was left and the search isn't anchored, they counted every byte of the span.
abbrev pub CountsShown : Built → Asked → OverlappingState → Type 0
CountsShown b asked state = IsCountedTo b asked (come_at_least (searched b asked) state.found) state.sums

-- A call showed the next occurrence of the listing, if there was one, and each byte up to its end was counted.
pub record ShowsNext (b : Built) (asked : Asked) (before after : OverlappingState) : Type 0 where
  pub found : after.found ≡ slice_get (listing_in b asked) before.shown.value
  pub shown : after.shown.value ≡ and_one after.found before.shown.value
  pub counted : CountsShown b asked after

-- an overlapping search of this input is supported: there is a start for its anchoring, and the kind is the standard
-- one
abbrev pub CanOverlap : Built → (Anchored → Type 0) → Asked → Type 0
CanOverlap b supports asked = supports asked.anchored × (b.dictionary.kind ≡ Standard)

-- the error of an overlapping search: that its anchoring has no start, or else that the kind isn't the standard one
abbrev pub IsOverlappingRefusal : Built → (Anchored → Type 0) → Asked → MatchErrorKind → Type 0
IsOverlappingRefusal b supports asked error =
    (¬ supports asked.anchored × (error ≡ refusal_of asked.anchored))
    ⊎ (supports asked.anchored × (b.dictionary.kind ≢ Standard) × (error ≡ UnsupportedOverlapping b.dictionary.kind))

-- A call shows the next occurrence of the listing; or it returns an error and leaves the state unchanged.
abbrev pub AnswersOverlapping : Built → (Anchored → Type 0) → Asked → OverlappingState → OverlappingState
    → Result (Unit {0}) MatchErrorKind → Type 0
AnswersOverlapping b supports asked before after (Ok done) =
    CanOverlap b supports asked × ShowsNext b asked before after
AnswersOverlapping b supports asked before after (Err error) =
    IsOverlappingRefusal b supports asked error × (after ≡ before)

-- The contracts of the parts of an overlapping search, for an automaton and an input: what is shown where the search
-- stands, and its cost.
use Rattle.std.specs.Prelude.{◌≡◌, ◌≢◌, ◌⊎◌, ℕ, ◌+◌, ◌-◌, ◌<◌, ◌≤◌, Bool, false, true, List, [], ◌∷◌, ◌++◌, drop, take, length, IfSome, Option, None, Some, Result, Ok, Err, unwrap_or}
use denote.Ref.{Bor}
use Rattle.ac_input.specs.Number.{StateID}
use Rattle.ac_input.specs.declared.search.Anchored.{Anchored}
use Rattle.ac_input.specs.declared.search.Anchored.TheVariants.{No, Yes}
use Rattle.ac_input.specs.declared.search.MatchKind.TheVariants.{Standard}
use Rattle.ac_input.specs.declared.steps.Steps.{Steps}
use Rattle.ac_input.specs.Candidate.{Filter}
use Rattle.ac_input.specs.Computed.{listing_of}
use Rattle.ac_input.specs.Dictionary.{Dictionary}
use Rattle.ac_input.specs.Input.{Asked, is_anchored, search_of}
use Rattle.ac_input.specs.Occurrence.{Search, Occurrence, Occurs, starting_at}
use Rattle.ac_input.specs.Work.{HasCounted}
use Rattle.ac_automaton.specs.Ahead.{IsPaid, bytes_ahead}
use Rattle.ac_automaton.specs.Automaton.{Built, listing_in, prefilter_for, searched}
use Rattle.ac_automaton.specs.InMemory.Find.Cursor.{counted, walked, StandsIn}
use Rattle.ac_automaton.specs.InMemory.Find.{MayGoOnFrom}
use Rattle.ac_automaton.specs.InMemory.Find.Ahead.{IsAheadOf}
use Rattle.ac_automaton.specs.declared.ahead.Ahead.{Ahead}
use Rattle.ac_automaton.specs.InMemory.Overlapping.{AnswersOverlapping, CameFrom, CanOverlap, CanRestart, IsAheadOfPosition, IsLeft, IsOverlappingRefusal, IsPaidAt, IsPaidBy, IsPlacePaid, IsSkipCost, KeepsBudget, ReadsOn, ShowsFirst, TellsFirst, ending_from, read_at_least, stands_at_least, occurrences_from}
use Rattle.ac_automaton.specs.declared.automaton.Automaton.{Ghosts}
use Rattle.ac_automaton.specs.declared.error.MatchErrorKind.{MatchErrorKind}
use Rattle.ac_automaton.specs.declared.in_memory.overlapping.Beginning.{Beginning}
use Rattle.ac_automaton.specs.declared.in_memory.overlapping.Entry.{Entry}
use Rattle.ac_automaton.specs.declared.in_memory.overlapping.OverlappingState.{OverlappingState}
use Rattle.ac_automaton.specs.declared.in_memory.overlapping.Position.{Position}
use Rattle.ac_automaton.specs.declared.in_memory.overlapping.Position.TheVariants.{At, Over}
use Rattle.ac_automaton.specs.declared.in_memory.find.cursor.Cursor.{Cursor}
use Rattle.ac_automaton.specs.declared.in_memory.find.cursor.End.{End}
use Rattle.ac_automaton.specs.declared.in_memory.find.cursor.End.TheVariants.{Found, Idle}
use Rattle.ac_automaton.specs.declared.in_memory.overlapping.Shown.{Shown}

-- ---- what a search costs

-- if the looks are paid for where a walk stands, they still are after reading on
abbrev pub PaysOn : Built → Asked → Cursor → End Shown → Steps → Steps → Type 0
PaysOn b asked cursor end before after =
    (looks more : ℕ) → IsPaidAt b.dictionary b.deterministic (searched b asked) cursor.from cursor.at looks
    → looks + after.looked.value ≡ more + before.looked.value
    → IsPaidBy b.dictionary b.deterministic (searched b asked) end more

-- if the looks and scans are paid for where a search stands, they still are after a call that shows this
abbrev pub KeepsPaying : Built → Asked → Position → Shown → Steps → Steps → Type 0
KeepsPaying b asked place shown before after =
    KeepsBudget b.dictionary b.deterministic (searched b asked) place shown.place before after

-- if the looks and scans are paid for at a state whose list was shown up to an index, they still are after a call that
-- shows this
abbrev pub PaysAt : Built → Asked → Cursor → ℕ → Shown → Steps → Steps → Type 0
PaysAt b asked cursor index shown before after =
    KeepsPaying b asked (At cursor.sid cursor.from cursor.at index) shown before after

-- what it costs to read on from a place, from one candidate to the next
abbrev pub SkipsAtCost : Built → Asked → ℕ → End Shown → Steps → Steps → Type 0
SkipsAtCost b asked at end before after = IsSkipCost b.dictionary b.deterministic (searched b asked) at end before after

-- A walk that reads on looks at a state for each byte that it passes.
abbrev pub LooksOn : Built → Asked → Cursor → End Shown → Steps → Steps → Type 0
LooksOn b asked cursor end before after =
    (before.looked.value + (read_at_least (searched b asked) end - cursor.at) ≤ after.looked.value)

-- reading on from a place, from one candidate to the next, counts each byte that it passes
abbrev pub SkipCounts : Built → Asked → ℕ → End Shown → Steps → Steps → Type 0
SkipCounts b asked at end before after =
    HasCounted (prefilter_for b asked.anchored) (read_at_least (searched b asked) end - at) before after

-- a call that reads on from a place counts each byte that it passes
abbrev pub CountsFrom : Built → Asked → ℕ → Shown → Steps → Steps → Type 0
CountsFrom b asked at shown before after = SkipCounts b asked at (Found shown) before after

-- a call counts each byte that it passes from where the search stands
abbrev pub CountsOn : Built → Asked → Position → Shown → Steps → Steps → Type 0
CountsOn b asked place shown before after =
    CountsFrom b asked (stands_at_least (searched b asked) place) shown before after

-- A prefilter that scans for bytes counts the places up to its candidate, or to the end if there is none; without a
-- prefilter the candidate is the place itself.
abbrev pub ScanCounts : Option (Bor Filter) → ℕ → ℕ → Option ℕ → Steps → Steps → Type 0
ScanCounts None at end found before after = (found ≡ Some at) × (after ≡ before)
ScanCounts (Some p) at end found before after =
    p.now.needles ≢ [] → before.scanned.value + (unwrap_or found end - at) ≤ after.scanned.value

-- the scans for a candidate between a place and an end; the last one is at most 254 after the candidate
pub record IsScanFor (at end : ℕ) (found : Option ℕ) (before after : Steps) : Type 0 where
  pub looked : after.looked.value ≡ before.looked.value
  pub within : after.scanned.value + at ≤ before.scanned.value + end
  pub near : (place : ℕ) → found ≡ Some place → after.scanned.value + at ≤ before.scanned.value + place + 255
  pub moved : after.moved.value ≡ before.moved.value

-- ---- what is shown

-- a place before which no occurrence begins; no place if nothing occurs
abbrev pub BeginsAt : Search → Option ℕ → Type 0
BeginsAt s None = (o : Occurrence) → ¬ Occurs s o
BeginsAt s (Some at) = MayGoOnFrom s at

-- the next place from `at` where an occurrence may begin, for the prefilter's dictionary, or for any without a
-- prefilter
abbrev pub BeginsWith : Option (Bor Filter) → Asked → ℕ → Option ℕ → Type 0
BeginsWith prefilter asked at found =
    (m : Dictionary) → IfSome prefilter (λ p. p.now.dictionary ≡ m)
    → BeginsAt (starting_at (search_of m asked.anchored asked.haystack asked.span) at) found

module _ {S : Type 0} (A : Ghosts S) (automaton : S) where
  -- The first entry that counts in a state's list from an index on, and the index after it. The search reached the
  -- state by this many bytes from the start of this anchoring.
  abbrev pub IsNextEntry : Anchored → StateID → ℕ → ℕ → Option Entry → Type 0
  IsNextEntry anchored sid read index None =
      counted (A.built automaton).dictionary (is_anchored anchored) read (drop index (A.matches automaton sid)) ≡ []
  IsNextEntry anchored sid read index (Some entry) =
      (counted (A.built automaton).dictionary (is_anchored anchored) read (drop index (A.matches automaton sid))
      ≡ entry.pattern ∷ counted (A.built automaton).dictionary (is_anchored anchored) read
      (drop entry.next (A.matches automaton sid)))
      × (entry.pattern < length (A.built automaton).dictionary.patterns)

  module _ (asked : Asked) where
    -- an overlapping search of the standard kind stands where it may show the matches of a state
    pub record MayShow (here : Cursor) : Type 0 where
      pub standard : (A.built automaton).dictionary.kind ≡ Standard
      pub cursor : StandsIn (A.built automaton) (A.Reaches automaton) asked here

    -- an overlapping search may go on from the start at a place, by the prefilter if there is one
    pub record MaySkip (prefilter : Option (Bor Filter)) (start : StateID) (at : ℕ) : Type 0 where
      pub standard : (A.built automaton).dictionary.kind ≡ Standard
      pub made : IfSome prefilter (λ p. p.now.dictionary ≡ (A.built automaton).dictionary)
      pub own : IfSome prefilter (λ p. (A.built automaton).prefilter ≡ Some p.now)
      pub free : asked.anchored ≡ No
      pub starts : A.Reaches automaton asked.anchored [] start
      pub empty : A.matches automaton start ≡ []
      pub from : asked.span.start ≤ at
      pub to : at ≤ asked.span.end
      pub inside : asked.span.end ≤ length asked.haystack

    -- the first occurrence to show in a state's list from an index on
    abbrev pub ShowsAt : Cursor → ℕ → Option Shown → Type 0
    ShowsAt cursor index shown =
        TellsFirst (A.matches automaton) (A.built automaton).dictionary (searched (A.built automaton) asked) cursor
        index shown

    -- the occurrences in the list of a walk's state from an index on
    abbrev pub told_at : Cursor → ℕ → List Occurrence
    told_at cursor index =
        occurrences_from (A.built automaton).dictionary (walked (searched (A.built automaton) asked) cursor) cursor.at
        (A.matches automaton cursor.sid) index

    -- what is left of the listing for a walk: what ends at a place or later
    abbrev pub left_for : Cursor → ℕ → List Occurrence
    left_for cursor at = ending_from (walked (searched (A.built automaton) asked) cursor) at

    -- this is what is left where a search stands
    abbrev pub IsLeftAt : Position → List Occurrence → Type 0
    IsLeftAt place left =
        IsLeft (A.Reaches automaton asked.anchored) (A.matches automaton) (A.built automaton).dictionary
        (searched (A.built automaton) asked) place left

    -- the first of what is left is shown, if there is anything
    abbrev pub ShowsFirstOf : List Occurrence → Shown → Type 0
    ShowsFirstOf left shown =
        ShowsFirst (A.Reaches automaton asked.anchored) (A.matches automaton) (A.built automaton).dictionary
        (searched (A.built automaton) asked) left shown

    -- how reading on from a place ends
    abbrev pub ReadsOnFrom : ℕ → List Occurrence → End Shown → Type 0
    ReadsOnFrom at left end =
        ReadsOn (A.Reaches automaton asked.anchored) (A.matches automaton) (A.built automaton).dictionary
        (searched (A.built automaton) asked) at left end

    -- What is shown where a walk stands: the first occurrence left, after which the search stands there, or is over if
    -- anchored.
    -- None: the state has no occurrence.
    abbrev pub ShowsHere : Cursor → Option Shown → Type 0
    ShowsHere cursor None = told_at cursor 0 ≡ []
    ShowsHere cursor (Some shown) =
        ShowsFirstOf (left_for cursor cursor.at) shown
        × (((shown.place ≡ Over) × (asked.anchored ≡ Yes))
        ⊎ ((index : ℕ) × (shown.place ≡ At cursor.sid cursor.from cursor.at index)))

    -- How reading on ends where a walk stands: with what is shown there; or all that is left begins there or later, and
    -- the search may begin anew. None: the state has no occurrence, and reading on continues.
    abbrev pub EndsHere : Cursor → Option (End Shown) → Type 0
    EndsHere cursor None = told_at cursor 0 ≡ []
    EndsHere cursor (Some (Found shown)) = ShowsHere cursor (Some shown)
    EndsHere cursor (Some (Idle at)) =
        (at ≡ cursor.at)
        × (left_for cursor cursor.at ≡ listing_of (starting_at (searched (A.built automaton) asked) cursor.at))
        × CanRestart (A.Reaches automaton asked.anchored) (A.matches automaton) (searched (A.built automaton) asked)

    -- the first of what ends after the place where a walk stands is shown; or the walk is back at the start
    abbrev pub ShowsLater : Cursor → End Shown → Type 0
    ShowsLater cursor end = ReadsOnFrom cursor.at (left_for cursor (cursor.at + 1)) end

    -- the first of what begins at a place or later is shown; or the walk is back at the start
    abbrev pub ShowsFrom : ℕ → End Shown → Type 0
    ShowsFrom at end = ReadsOnFrom at (listing_of (starting_at (searched (A.built automaton) asked) at)) end

    -- the first of what ends after the place where a walk stands is shown
    abbrev pub ShowsAfter : Cursor → Shown → Type 0
    ShowsAfter cursor shown = ShowsFirstOf (left_for cursor (cursor.at + 1)) shown

    -- the first of the state's occurrences from an index on is shown, or of what ends later if there is none
    abbrev pub ShowsRest : Cursor → ℕ → Shown → Type 0
    ShowsRest cursor index shown = ShowsFirstOf (told_at cursor index ++ left_for cursor (cursor.at + 1)) shown

    -- some list is what is left where a search stands
    abbrev pub HasLeft : Position → Type 0
    HasLeft place = (left : List Occurrence) × IsLeftAt place left

    -- whatever is left where a search stands, the first of it is shown
    abbrev pub ShowsNextAt : Position → Shown → Type 0
    ShowsNextAt place shown = (left : List Occurrence) → IsLeftAt place left → ShowsFirstOf left shown

    -- A search begins at the start, where the whole listing is left and nothing has to be paid for; or it returns an
    -- error.
    abbrev pub AnswersBegin : Result Beginning MatchErrorKind → Type 0
    AnswersBegin (Ok beginning) =
        CanOverlap (A.built automaton) (A.supports automaton) asked
        × A.Reaches automaton asked.anchored [] beginning.start
        × IsLeftAt beginning.place (listing_in (A.built automaton) asked)
        × IsPlacePaid (A.built automaton).dictionary (A.built automaton).deterministic
        (searched (A.built automaton) asked) beginning.place 0
        × (stands_at_least (searched (A.built automaton) asked) beginning.place ≤ asked.span.start)
    AnswersBegin (Err error) = IsOverlappingRefusal (A.built automaton) (A.supports automaton) asked error

    -- the state is fresh, or came only from earlier calls with this automaton and input
    abbrev pub CameFromCalls : OverlappingState → Type 0
    CameFromCalls state = CameFrom (A.built automaton) (A.Reaches automaton) (A.matches automaton) asked state

    -- what a call returns, and how it leaves the state
    abbrev pub AnswersCall : OverlappingState → OverlappingState → Result (Unit {0}) MatchErrorKind → Type 0
    AnswersCall before after result =
        AnswersOverlapping (A.built automaton) (A.supports automaton) asked before after result

-- ---- what was read ahead

-- Looks and scans are paid for after a call that shows this, and it counts each byte that it passes: by what these
-- bytes cost, whenever they were looked at.
abbrev pub PaysAhead : Built → Asked → Position → Shown → Ahead → Ahead → Steps → Steps → Type 0
PaysAhead b asked place shown first last before after =
    IsPaid first last after
    (λ paid. KeepsPaying b asked place shown before paid × CountsOn b asked place shown before paid)

-- the same of a call at a state whose list was shown up to an index
abbrev pub PaysAheadAt : Built → Asked → Cursor → ℕ → Shown → Ahead → Ahead → Steps → Steps → Type 0
PaysAheadAt b asked cursor index shown first last before after =
    PaysAhead b asked (At cursor.sid cursor.from cursor.at index) shown first last before after

-- what was read ahead of a search that stands at a cursor, over the haystack up to the end of the span
abbrev pub IsAheadFrom : {S : Type 0} → Ghosts S → S → Asked → Cursor → Ahead → Type 0
IsAheadFrom A automaton asked cursor ahead =
    IsAheadOf A automaton None (take asked.span.end asked.haystack) cursor.at cursor.sid ahead

-- what was read ahead of a search that stands at a position
abbrev pub IsAheadAt : {S : Type 0} → Ghosts S → S → Asked → Position → Ahead → Type 0
IsAheadAt A automaton asked place ahead =
    IsAheadOfPosition (A.built automaton) (A.Reaches automaton No) (A.matches automaton) asked place ahead

-- what was read ahead of a search that stands at a position, if it reads ahead; otherwise nothing was
abbrev pub IsAheadIf : {S : Type 0} → Bool → Ghosts S → S → Asked → Position → Ahead → Type 0
IsAheadIf false A automaton asked place ahead = bytes_ahead ahead ≡ 0
IsAheadIf true A automaton asked place ahead = IsAheadAt A automaton asked place ahead

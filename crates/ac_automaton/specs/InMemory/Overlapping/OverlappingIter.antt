-- The overlapping matches of an input in turn: which were shown, which are left, and what that costs.
use Rattle.std.specs.Prelude.{◌≡◌, ◌⊎◌, ℕ, ◌+◌, ◌-◌, ◌*◌, ◌≤◌, List, drop, Option, Result, Ok, Err}
use Rattle.ac_input.specs.declared.search.Anchored.{Anchored}
use Rattle.ac_input.specs.declared.search.Anchored.TheVariants.{No, Yes}
use Rattle.ac_input.specs.declared.steps.Steps.{Steps}
use Rattle.ac_input.specs.Input.{Asked}
use Rattle.ac_input.specs.Occurrence.{Occurrence}
use Rattle.ac_input.specs.Work.{CountsBytes, bytes_counted, come_at_least, lookups_per_byte}
use Rattle.ac_automaton.specs.Ahead.{most_ahead}
use Rattle.ac_automaton.specs.declared.error.MatchErrorKind.{MatchErrorKind}
use Rattle.ac_automaton.specs.declared.error.MatchErrorKind.TheVariants.{InvalidInputAnchored}
use Rattle.ac_automaton.specs.InMemory.Overlapping.{CanOverlap, IsOverlappingRefusal, and_one}
use Rattle.ac_automaton.specs.Automaton.{Built, listing_in, prefilter_for, searched}

-- A run through a listing: the automaton and the input; how many of the listing were shown; and how many states were
-- looked at, how many places were scanned and how many bytes were moved so far.
pub record Run : Type 0 where
  pub built : Built
  pub asked : Asked
  pub shown : ℕ
  pub looked : ℕ
  pub scanned : ℕ
  pub moved : ℕ

-- a run that has not begun
abbrev pub fresh_run : Built → Asked → Run
fresh_run b asked = record { built = b; asked = asked; shown = 0; looked = 0; scanned = 0; moved = 0 }

-- the remaining occurrences: the listing, less those that were shown
abbrev pub rest_of : Run → List Occurrence
rest_of run = drop run.shown (listing_in run.built run.asked)

-- the second run is the first one after it showed this occurrence, if any, whatever that cost
abbrev pub IsRunAfter : Run → Option Occurrence → Run → Type 0
IsRunAfter run r later =
    later ≡ record run
    { shown = and_one r run.shown; looked = later.looked; scanned = later.scanned; moved = later.moved }

-- the second run counts what the first one counts, and exactly what was done in between
pub record RunCounts (run later : Run) (before after : Steps) : Type 0 where
  pub looked : after.looked.value + run.looked ≡ before.looked.value + later.looked
  pub scanned : after.scanned.value + run.scanned ≡ before.scanned.value + later.scanned
  pub moved : after.moved.value + run.moved ≡ before.moved.value + later.moved

-- what a run may cost in total: the looks and the scans of one walk over the span, however much it shows
pub record IsWithinOneWalk (run : Run) : Type 0 where
  pub looked : run.looked ≤ lookups_per_byte run.built.deterministic * (run.asked.span.end - run.asked.span.start)
  pub scanned : run.scanned ≤ 256 * (run.asked.span.end - run.asked.span.start)
  pub moved : run.moved ≡ 0

-- A run that showed `r` last has looked at no more states than for the bytes up to the end of `r`, and for `most_ahead`
-- bytes more.
abbrev pub LooksNear : Run → Option Occurrence → Type 0
LooksNear run r =
    run.looked ≤ lookups_per_byte run.built.deterministic
    * (come_at_least (searched run.built run.asked) r - run.asked.span.start) + most_ahead

-- A run has counted each byte of the span up to the end of `r`, which it showed last. If nothing was left and the
-- search isn't anchored, it has counted every byte of the span.
abbrev pub CountsRun : Run → Option Occurrence → Type 0
CountsRun run r =
    CountsBytes (prefilter_for run.built run.asked.anchored)
    → come_at_least (searched run.built run.asked) r - run.asked.span.start
    ≤ bytes_counted (prefilter_for run.built run.asked.anchored) run.looked run.scanned

-- the run counts what a call costs that shows `r`; it stays within one walk, and looks not far ahead
abbrev pub CostsShown : Run → Run → Steps → Steps → Option Occurrence → Type 0
CostsShown run later before after r = RunCounts run later before after × IsWithinOneWalk later × LooksNear later r

-- the result is a run through all occurrences that has not begun, or an error if an unanchored one isn't supported
abbrev pub AnswersListing : Built → (Anchored → Type 0) → Asked → Result Run MatchErrorKind → Type 0
AnswersListing b supports asked (Ok run) =
    (CanOverlap b supports asked × (asked.anchored ≡ No)) × (run ≡ fresh_run b asked)
    × (rest_of run ≡ listing_in b asked)
AnswersListing b supports asked (Err error) =
    IsOverlappingRefusal b supports asked error
    ⊎ (CanOverlap b supports asked × (asked.anchored ≡ Yes) × (error ≡ InvalidInputAnchored))

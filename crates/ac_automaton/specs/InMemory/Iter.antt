-- A walk over the matches of an input: where it stands, what is left of it, and what it costs.
use Rattle.std.specs.Prelude.{◌≡◌, ℕ, ◌+◌, ◌-◌, ◌*◌, ◌<◌, ◌≤◌, min, Bool, List, Option, None, Some, Result, Ok, Err, IfSome, length}
use Rattle.ac_input.specs.declared.search.Anchored.{Anchored}
use Rattle.ac_input.specs.declared.search.Anchored.TheVariants.{No}
use Rattle.ac_input.specs.declared.search.MatchKind.{MatchKind}
use Rattle.ac_input.specs.declared.search.MatchKind.TheVariants.{Standard}
use Rattle.ac_input.specs.declared.steps.Steps.{Steps}
use Rattle.ac_input.specs.Computed.{walk_after}
use Rattle.ac_input.specs.Input.{Asked}
use Rattle.ac_input.specs.Occurrence.{Search, Occurrence}
use Rattle.ac_input.specs.Steps.{Done}
use Rattle.ac_input.specs.Walk.{IsPick}
use Rattle.ac_input.specs.Work.{CountsBytes, HasCounted, bytes_counted, come_at_least, lookups_per_byte, longest, shortest, over_at}
use Rattle.ac_automaton.specs.Ahead.{most_ahead}
use Rattle.ac_automaton.specs.Automaton.{Built, kind_asked, prefilter_for, searched, walk_in, refusal_of}
use Rattle.ac_automaton.specs.declared.error.MatchErrorKind.{MatchErrorKind}
use Rattle.ac_automaton.specs.declared.in_memory.iter.WalkPlace.{WalkPlace}

-- A walk: the automaton and the input; the place where it stands, and where its last pick ended; how many picks it gave
-- so far; and how many states it looked at, how many places it scanned and how many bytes it moved for them.
pub record Walk : Type 0 where
  pub built : Built
  pub asked : Asked
  pub at : ℕ
  pub last : Option ℕ
  pub given : ℕ
  pub looked : ℕ
  pub scanned : ℕ
  pub moved : ℕ

-- a walk that has not begun
abbrev pub fresh_walk : Built → Asked → Walk
fresh_walk b asked =
    record {
      built = b;
      asked = asked;
      at = asked.span.start;
      last = None;
      given = 0;
      looked = 0;
      scanned = 0;
      moved = 0;
    }

-- a walk that began at a place, with the input that is left, the end of its last pick, how many it gave, and the steps
-- that it took
abbrev pub walk_at : Built → ℕ → Asked → Option ℕ → ℕ → Steps → Walk
walk_at b first left last given sums =
    record {
      built = b;
      asked = record left { span = record left.span { start = first } };
      at = left.span.start;
      last = last;
      given = given;
      looked = sums.looked.value;
      scanned = sums.scanned.value;
      moved = sums.moved.value;
    }

-- a place at which a walk over the input may stand
abbrev pub IsPlaceIn : Asked → WalkPlace → Type 0
IsPlaceIn asked place = (place.start ≤ asked.span.end + 1) × IfSome place.last (λ end. end ≤ place.start)

-- a walk that goes on from a place, with nothing counted yet
abbrev pub walk_from_place : Built → Asked → WalkPlace → Walk
walk_from_place b asked place =
    record (fresh_walk b (record asked { span = record asked.span { start = place.start } })) { last = place.last }

-- the kind that a walk uses
abbrev pub walk_kind : Walk → MatchKind
walk_kind w = kind_asked w.built w.asked

-- the remaining picks
abbrev pub left_of : Walk → List Occurrence
left_of w = walk_after (walk_kind w) (searched w.built w.asked) w.at w.last

-- the result is a walk over all matches that has not begun, or an error if its anchoring has no start
abbrev pub AnswersFindIter : Built → (Anchored → Type 0) → Asked → Result Walk MatchErrorKind → Type 0
AnswersFindIter b supports asked (Ok walk) =
    supports asked.anchored × (walk ≡ fresh_walk b asked) × (left_of walk ≡ walk_in b asked)
AnswersFindIter b supports asked (Err error) = (¬ supports asked.anchored × (error ≡ refusal_of asked.anchored))

-- the result is a walk that goes on from the place, or an error if its anchoring has no start
abbrev pub AnswersFindIterFrom : Built → (Anchored → Type 0) → Asked → WalkPlace → Result Walk MatchErrorKind → Type 0
AnswersFindIterFrom b supports asked place (Ok walk) = supports asked.anchored × (walk ≡ walk_from_place b asked place)
AnswersFindIterFrom b supports asked place (Err error) =
    (¬ supports asked.anchored × (error ≡ refusal_of asked.anchored))

-- a walk after its next pick: it stands at the pick's end, or past the span where there was none
abbrev pub walk_after_pick : Walk → Option Occurrence → Walk
walk_after_pick w None = record w { at = w.asked.span.end + 1 }
walk_after_pick w (Some o) = record w { at = o.end; last = Some o.end; given = w.given + 1 }

-- the result is the first walk's next pick, and the second walk is the first one after that pick
abbrev pub GivesPick : Walk → Option Occurrence → Walk → Type 0
GivesPick w r v =
    IsPick (walk_kind w) (searched w.built w.asked) w.at w.last r
    × (v ≡ record (walk_after_pick w r) { looked = v.looked; scanned = v.scanned; moved = v.moved })

-- the second walk counts what the first one counts, and exactly what was done in between
abbrev pub WalkCounts : Walk → Walk → Steps → Steps → Type 0
WalkCounts w v before after =
    (states places bytes : ℕ) × Done states places bytes before after × (v.looked ≡ w.looked + states)
    × (v.scanned ≡ w.scanned + places) × (v.moved ≡ w.moved + bytes)

-- What the next pick of a walk that stands at a place may cost. The looks are linear in the rest of the span; without an
-- empty pattern it is searched once. Under standard they end with the pick. Under a leftmost kind without an empty
-- pattern they end at most the longest pattern and one byte after its start. Scans for bytes never pass the pick.
pub record IsPickWork (kind : MatchKind) (deterministic : Bool) (s : Search) (at : ℕ) (r : Option Occurrence)
    (before after : Steps) : Type 0 where
  pub looked : after.looked.value ≤ before.looked.value + 2 * (lookups_per_byte deterministic * (s.end - at))
  pub standard : kind ≡ Standard
      → after.looked.value ≤ before.looked.value + lookups_per_byte deterministic * (over_at s r - at)
  pub once : 1 ≤ shortest s.patterns
      → after.looked.value ≤ before.looked.value + lookups_per_byte deterministic * (s.end - at)
  pub leftmost : 1 ≤ shortest s.patterns → (o : Occurrence) → r ≡ Some o
      → after.looked.value ≤ before.looked.value + lookups_per_byte deterministic
      * (o.start + longest s.patterns + 1 - at)
  pub scanned : after.scanned.value ≤ before.scanned.value + 256 * (over_at s r - at)
  pub moved : after.moved.value ≡ before.moved.value

-- what the next pick of a walk may cost; past the span nothing
pub record IsNextWork (w : Walk) (r : Option Occurrence) (before after : Steps) : Type 0 where
  pub pick : IsPickWork (walk_kind w) w.built.deterministic (searched w.built w.asked) w.at r before after
  pub idle : w.asked.span.end < w.at → after ≡ before

-- how many bytes of the span a walk has passed
abbrev pub passed : Walk → ℕ
passed w = min w.at w.asked.span.end - w.asked.span.start

-- how many bytes a walk may have looked at again: after each pick as many as the longest pattern has, and one
abbrev pub passed_again : Walk → ℕ
passed_again w = (longest w.built.dictionary.patterns + 1) * w.given

-- What a walk has cost so far. Under standard it made at most one look for each byte of the span that it has passed, or
-- two if the automaton isn't deterministic. Under a leftmost kind without an empty pattern it made as many for each byte
-- that it may have looked at again. Under any kind it scanned at most 256 places for each byte that it has passed, and
-- moved no byte.
pub record IsWithinBudget (w : Walk) : Type 0 where
  pub looked : walk_kind w ≡ Standard → w.looked ≤ lookups_per_byte w.built.deterministic * passed w
  pub leftmost : 1 ≤ shortest w.built.dictionary.patterns
      → w.looked ≤ lookups_per_byte w.built.deterministic * (passed w + passed_again w)
  pub scanned : w.scanned ≤ 256 * passed w
  pub moved : w.moved ≡ 0

-- If no pattern is empty, the next pick of a search that stands at the start of its span counts each byte that it
-- passes.
abbrev pub PickCounts : Built → Asked → Option Occurrence → Steps → Steps → Type 0
PickCounts b asked r before after =
    1 ≤ shortest b.dictionary.patterns
    → HasCounted (prefilter_for b asked.anchored) (come_at_least (searched b asked) r - asked.span.start) before after

-- If a walk isn't anchored and no pattern is empty, it has counted each byte of the span that it has passed.
abbrev pub CountsWalk : Walk → Type 0
CountsWalk w =
    w.asked.anchored ≡ No → 1 ≤ shortest w.built.dictionary.patterns → CountsBytes w.built.prefilter
    → passed w ≤ bytes_counted w.built.prefilter w.looked w.scanned

-- the next pick counts each byte that it passes, and the walk after it has counted each byte that it has passed
pub record CountsPick (w v : Walk) (before after : Steps) (r : Option Occurrence) : Type 0 where
  pub pick : PickCounts w.built (record w.asked { span = record w.asked.span { start = w.at } }) r before after
  pub walk : CountsWalk v

-- the next pick costs no more than one pick may, the walk counts what it costs, and each byte that is passed is counted
abbrev pub CostsPick : Walk → Walk → Steps → Steps → Option Occurrence → Type 0
CostsPick w v before after r =
    WalkCounts w v before after × IsNextWork w r before after × CountsPick w v before after r × IsWithinBudget v

-- What a walk that reads ahead has cost so far. Under standard it made at most one look for each byte of the span, or
-- two if the automaton isn't deterministic; and no more than those for the bytes that it has passed, and for
-- `most_ahead` more. Under a leftmost kind without an empty pattern it made no more than those for the bytes that it has
-- passed and may have looked at again, and one for each byte of the span, read ahead in vain. Under any kind it scanned
-- at most 256 places for each byte that it has passed, and moved no byte.
pub record IsWithinBudgetAhead (w : Walk) : Type 0 where
  pub looked : walk_kind w ≡ Standard
      → w.looked ≤ lookups_per_byte w.built.deterministic * (w.asked.span.end - w.asked.span.start)
  pub near : walk_kind w ≡ Standard → w.looked ≤ lookups_per_byte w.built.deterministic * passed w + most_ahead
  pub leftmost : 1 ≤ shortest w.built.dictionary.patterns
      → w.looked ≤ lookups_per_byte w.built.deterministic * (passed w + passed_again w)
      + (w.asked.span.end - w.asked.span.start)
  pub scanned : w.scanned ≤ 256 * passed w
  pub moved : w.moved ≡ 0

-- the walk counts what a pick costs when it is done, it stays within its budget, and has counted each byte that it has
-- passed
abbrev pub CostsPickAhead : Walk → Walk → Steps → Steps → Type 0
CostsPickAhead w v before after = WalkCounts w v before after × IsWithinBudgetAhead v × CountsWalk v

-- what holds of a walk wherever it stands
pub record IsOnItsWay (w : Walk) : Type 0 where
  pub begun : w.asked.span.start ≤ w.at
  pub within : (w.at ≤ w.asked.span.end + 1) × (w.asked.span.end ≤ length w.asked.haystack)
  pub last : IfSome w.last (λ end. end ≤ w.at)

-- the next pick of a search that stands at the start of its span
abbrev pub IsPickOf : Built → Asked → Option ℕ → Option Occurrence → Type 0
IsPickOf b asked last r = IsPick (kind_asked b asked) (searched b asked) asked.span.start last r

-- the same input, with its span starting at another place
abbrev pub IsRestOf : Asked → Asked → Type 0
IsRestOf asked rest = rest ≡ record asked { span = record asked.span { start = rest.span.start } }

-- what the next pick of a search that stands at the start of its span may cost
abbrev pub IsPickCost : Built → Asked → Steps → Steps → Option Occurrence → Type 0
IsPickCost b asked before after r =
    IsPickWork (kind_asked b asked) b.deterministic (searched b asked) asked.span.start r before after

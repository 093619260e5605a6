-- What a walk returns, from a cursor that C keeps.
use Rattle.std.specs.Prelude.{◌≡◌, ◌⊎◌, ℕ, ◌==◌, ◌+◌, ◌<◌, ◌≤◌, ◌^◌, ◌-◌, ◌&&◌, nat_le, nat_lt, Bool, if◌then◌else◌, min, List, [], ◌∷◌, length, map, take, drop, Option, Some, None, IfSome, MatchOption, Result, Ok, Err}
use Rattle.ac_input.specs.declared.steps.Steps.{Steps}
use Rattle.ac_input.specs.Occurrence.{Occurrence}
use Rattle.ac_automaton.specs.InMemory.Iter.{IsPickCost, IsPlaceIn, PickCounts, Walk, left_of, walk_from_place}
use Rattle.ac_automaton.specs.declared.in_memory.iter.WalkPlace.{WalkPlace}
use Rattle.aho_corasick.specs.AhoCorasick.{as_built, supported_by}
use Rattle.aho_corasick.specs.declared.ahocorasick.AhoCorasick.{AhoCorasick}
use Rattle.ac_c.specs.declared.find.Bounds.{Bounds}
use Rattle.ac_c.specs.declared.found.Found.{Found}
use Rattle.ac_c.specs.declared.walk.Batch.{Batch}
use Rattle.ac_c.specs.declared.walk.Cursor.{Cursor}
use Rattle.ac_c.specs.declared.walk.Step.{Step}
use Rattle.ac_c.specs.Find.{IsRefusedStart, IsSpanIn, anchoring, asked_by}
use Rattle.ac_c.specs.Found.{shown, nothing}
use Rattle.ac_c.specs.Status.{ok, none, bad_cursor}
use Rattle.ac_c.specs.Walking.{WalksTo}

-- the number that stands for the last match's end, where there is no last match
abbrev pub no_place : ℕ
no_place = 2 ^ 64 - 1

abbrev pub cursor : ℕ → ℕ → ℕ → ℕ → ℕ → Cursor
cursor start end last anchored earliest =
    record { start = start; end = end; last = last; anchored = anchored; earliest = earliest }

abbrev pub bounds_of : Cursor → Bounds
bounds_of c = record { start = c.start; end = c.end; anchored = c.anchored; earliest = c.earliest }

-- where the last match ended, if there was one
abbrev pub last_of : Cursor → Option ℕ
last_of c = if c.last == no_place then None else Some c.last

-- the place in the walk at which the cursor stands
abbrev pub place_of_cursor : Cursor → WalkPlace
place_of_cursor c = record { start = c.start; last = last_of c }

-- a valid cursor over the haystack: its span is one of the haystack, and its last match ended at its start or before
abbrev pub IsCursorIn : List ℕ → Cursor → Type 0
IsCursorIn haystack c = IsSpanIn haystack (bounds_of c) × IfSome (last_of c) (λ last. last ≤ c.start)

-- the second cursor is the first one at another place
abbrev pub Goes : Cursor → WalkPlace → Cursor → Type 0
Goes c place d =
    (d ≡ record c { start = place.start; last = d.last })
    × (IfSome place.last (λ last. last < no_place) → last_of d ≡ place.last)

-- the walk that stands at the cursor, and the matches that are left of it
abbrev pub walk_of_cursor : AhoCorasick → List ℕ → Cursor → Walk
walk_of_cursor ac haystack c = walk_from_place (as_built ac) (asked_by haystack (bounds_of c)) (place_of_cursor c)

abbrev pub left_of_walk : AhoCorasick → List ℕ → Cursor → List Occurrence
left_of_walk ac haystack c = left_of (walk_of_cursor ac haystack c)

-- the second cursor stands further on in the walk of the first, and these matches are left
pub record IsCursorAfter (ac : AhoCorasick) (haystack : List ℕ) (c d : Cursor) (left : List Occurrence) : Type 0 where
  pub valid : IsCursorIn haystack d
  pub same : d ≡ record c { start = d.start; last = d.last }
  pub rest : left_of_walk ac haystack d ≡ left

-- why a walk doesn't go on: the cursor isn't valid for the haystack, or the automaton has no start for the search
abbrev pub IsRefusedWalk : AhoCorasick → List ℕ → Cursor → ℕ → Type 0
IsRefusedWalk ac haystack c status =
    ((status ≡ bad_cursor) × ¬ IsCursorIn haystack c)
    ⊎ (IsCursorIn haystack c × IsRefusedStart ac (asked_by haystack (bounds_of c)) status)

-- the cursor is valid for the haystack, and the automaton has a start for the search
abbrev pub IsWalkBy : AhoCorasick → List ℕ → Cursor → Type 0
IsWalkBy ac haystack c = IsCursorIn haystack c × supported_by ac (anchoring c.anchored)

-- r is the next match of those left, if there is one, and `rest` is what is left after it
abbrev pub IsFirstLeft : List Occurrence → Option Occurrence → List Occurrence → Type 0
IsFirstLeft left r rest = MatchOption r ((left ≡ []) × (rest ≡ [])) (λ o. left ≡ o ∷ rest)

-- the next match of a walk, and the cursor after it; or why the walk doesn't go on
abbrev pub IsStepBy : AhoCorasick → List ℕ → Cursor → Result (Option Occurrence × Cursor) ℕ → Type 0
IsStepBy ac haystack c (Ok step) =
    IsWalkBy ac haystack c × (rest : List Occurrence) × IsFirstLeft (left_of_walk ac haystack c) step.0 rest
    × IsCursorAfter ac haystack c step.1 rest
IsStepBy ac haystack c (Err status) = IsRefusedWalk ac haystack c status

-- What a step may cost, and that it counts each byte that it passes. One that is refused costs nothing.
abbrev pub CostsStep : AhoCorasick → List ℕ → Cursor → Steps → Steps → Result (Option Occurrence × Cursor) ℕ → Type 0
CostsStep ac haystack c before after (Ok step) =
    IsPickCost (as_built ac) (asked_by haystack (bounds_of c)) before after step.0
    × PickCounts (as_built ac) (asked_by haystack (bounds_of c)) step.0 before after
CostsStep ac haystack c before after (Err status) = after ≡ before

-- as C sees it
abbrev pub step_of : Cursor → Result (Option Occurrence × Cursor) ℕ → Step
step_of c (Ok (Some o, d)) = record { cursor = d; found = shown o; status = ok }
step_of c (Ok (None, d)) = record { cursor = d; found = nothing; status = none }
step_of c (Err status) = record { cursor = c; found = nothing; status = status }

abbrev pub AnswersStep : AhoCorasick → List ℕ → Cursor → Step → Type 0
AnswersStep ac haystack c step =
    (r : Result (Option Occurrence × Cursor) ℕ) × IsStepBy ac haystack c r × (step ≡ step_of c r)

-- the first entries of the buffer are the next matches, as many as it has room for
pub record AreGiven (left : List Occurrence) (old new : List Found) (n : ℕ) : Type 0 where
  pub count : n ≡ min (length old) (length left)
  pub given : take n new ≡ map shown (take n left)

-- the second walk is the first one after its next n matches
abbrev pub IsWalkPast : ℕ → Walk → Walk → Type 0
IsWalkPast n w v = (left_of v ≡ drop n (left_of w)) × (v.given ≡ w.given + n)

-- The walk, which may read ahead or not, stands at the first cursor, and its next matches went to the buffer. It stands
-- at the second cursor after them.
pub record TakesSome (ahead : Bool) (w : Walk) (c : Cursor) (old new : List Found) (before after : Steps)
    (taken : ℕ × Cursor) : Type 0 where
  pub given : AreGiven (left_of w) old new taken.0
  pub moved : Walk
  pub past : IsWalkPast taken.0 w moved
  pub cost : WalksTo ahead w moved before after
  pub within : IsPlaceIn moved.asked (record { start = moved.at; last = moved.last })
  pub goes : Goes c (record { start = moved.at; last = moved.last }) taken.1

-- the next matches of a walk, and the cursor after them; or why the walk doesn't go on, and the buffer is unchanged
abbrev pub IsSomeBy : AhoCorasick → List ℕ → Cursor → List Found → List Found → Result (ℕ × Cursor) ℕ → Type 0
IsSomeBy ac haystack c old new (Ok taken) =
    IsWalkBy ac haystack c × AreGiven (left_of_walk ac haystack c) old new taken.0
    × IsCursorAfter ac haystack c taken.1 (drop taken.0 (left_of_walk ac haystack c))
IsSomeBy ac haystack c old new (Err status) = IsRefusedWalk ac haystack c status × (new ≡ old)

-- a call with room for this many matches may read ahead
abbrev pub are_many : ℕ → Bool
are_many room = nat_le 16 room

-- The next matches cost what the walk does from one cursor to the other, which gives as many. With room for few it reads
-- nothing ahead. A call that is refused costs nothing.
abbrev pub CostsSome : AhoCorasick → List ℕ → Cursor → ℕ → Steps → Steps → Result (ℕ × Cursor) ℕ → Type 0
CostsSome ac haystack c room before after (Ok taken) =
    (v : Walk) × WalksTo (are_many room) (walk_of_cursor ac haystack c) v before after × (v.at ≡ taken.1.start)
    × (v.given ≡ taken.0)
CostsSome ac haystack c room before after (Err status) = after ≡ before

-- the status of a call that returned this count, for a buffer with this room
abbrev pub given_status : ℕ → ℕ → ℕ
given_status room count = if (count == 0) && nat_lt 0 room then none else ok

-- as C sees it
abbrev pub batch_of : Cursor → ℕ → Result (ℕ × Cursor) ℕ → Batch
batch_of c room (Ok taken) = record { cursor = taken.1; count = taken.0; status = given_status room taken.0 }
batch_of c room (Err status) = record { cursor = c; count = 0; status = status }

abbrev pub AnswersSome : AhoCorasick → List ℕ → Cursor → List Found → List Found → Batch → Type 0
AnswersSome ac haystack c old new batch =
    (r : Result (ℕ × Cursor) ℕ) × IsSomeBy ac haystack c old new r × (batch ≡ batch_of c (length old) r)

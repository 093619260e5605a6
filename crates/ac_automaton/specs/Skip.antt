-- What a search in the start may pass: places where no pattern opens, and bytes that leave it in the start.
use Rattle.std.specs.Prelude.{◌≡◌, ℕ, ◌+◌, ◌<◌, ◌≤◌, Bool, false, IsTrue, List, [], ◌++◌, length, take, drop, slice_index, Option, Some, None}
use Rattle.ac_input.specs.Number.{StateID}
use Rattle.ac_input.specs.declared.search.Anchored.{Anchored}
use Rattle.ac_input.specs.declared.search.Anchored.TheVariants.{No}
use Rattle.ac_input.specs.declared.steps.Steps.{Steps}
use Rattle.ac_input.specs.Candidate.{Filter}
use Rattle.ac_input.specs.Dictionary.{Dictionary, IsLive}
use Rattle.ac_input.specs.Opening.{HasNoOpening}
use Rattle.ac_input.specs.Steps.{Done}
use Rattle.ac_literal.specs.declared.openings.Openings.{Openings}
use Rattle.ac_literal.specs.Openings.{AreOpenings, PassesOpenings}
use Rattle.ac_automaton.specs.Automaton.{Built, IsReached, Leads, IsReadCost, PassesPlain}
use Rattle.ac_automaton.specs.Look.{is_between, ReadsTo, StaysBut}
use Rattle.ac_automaton.specs.declared.automaton.Advance.{Advance}
use Rattle.ac_automaton.specs.declared.look.Between.{Between}
use Rattle.ac_automaton.specs.declared.look.LookUp.{Ghosts}
use Rattle.ac_automaton.specs.declared.skip.Skips.{Skips}

-- ---- reading on with an automaton

-- Reading on with an automaton stops at the first state whose number lies between two, or after the last byte; and its
-- cost.
abbrev pub ReadsToBy : {S : Type 0} → Ghosts S → S → Anchored → Between → StateID → List ℕ → Advance → Steps → Steps
    → Type 0
ReadsToBy A automaton anchored two sid bytes stop before after =
    ReadsTo (A.built automaton) (A.Reaches automaton) anchored two sid bytes stop before after

-- At least one byte was read. Reading on stops at no state on the way, except perhaps at the last one.
pub record ReadsPart (b : Built) (Reaches : Anchored → List ℕ → StateID → Type 0) (anchored : Anchored)
    (stops : StateID → Bool) (sid : StateID) (bytes : List ℕ) (stop : Advance) (before after : Steps) : Type 0 where
  pub some : 0 < stop.taken
  pub within : stop.taken ≤ length bytes
  pub reads : Leads (Reaches anchored) sid (take stop.taken bytes) stop.sid
  pub plain : PassesPlain (Reaches anchored) stops sid bytes stop.taken
  pub cost : IsReadCost b Reaches anchored sid (take stop.taken bytes) before after

-- At least one byte was read. No state on the way has a number between the two, except perhaps the last one.
abbrev pub ReadsSome : {S : Type 0} → Ghosts S → S → Anchored → Between → StateID → List ℕ → Advance → Steps → Steps
    → Type 0
ReadsSome A automaton anchored two sid bytes stop before after =
    ReadsPart (A.built automaton) (A.Reaches automaton) anchored (is_between two) sid bytes stop before after

-- All the bytes were read, by a search that isn't anchored.
pub record ReadsAll {S : Type 0} (A : Ghosts S) (automaton : S) (sid : StateID) (bytes : List ℕ) (to : StateID)
    (before after : Steps) : Type 0 where
  pub leads : Leads (A.Reaches automaton No) sid bytes to
  pub cost : IsReadCost (A.built automaton) (A.Reaches automaton) No sid bytes before after

-- ---- what may be passed

-- In the start, nothing of what was read is live, and every text leads to some state. A text in which no pattern opens
-- leads to the same state as its end, if the end has all bytes that can still be live.
pub record MayPass (m : Dictionary) (len : ℕ) (Reaches : List ℕ → StateID → Type 0) (start : StateID) : Type 0 where
  pub begins : Reaches [] start
  pub empty : (text : List ℕ) → Reaches text start → IsLive m false text (Some (length text))
  pub all : (bytes : List ℕ) → ((k : ℕ) → slice_index bytes k < 256) → (mid : StateID) × Leads Reaches start bytes mid
  pub forgets : (front end : List ℕ) (sid : StateID) → HasNoOpening m len (front ++ end) → len ≤ length end + 1
      → Leads Reaches start end sid → Leads Reaches start (front ++ end) sid

-- Openings by which a search that stops between two numbers may pass. They are those of the automaton's dictionary, and
-- neither number is greater than the start's. A state that isn't dead and has no match is not between the two.
pub record MaySkipBy {S : Type 0} (A : Ghosts S) (automaton : S) (openings : Openings) (start : StateID)
    (two : Between) : Type 0 where
  pub open_ : AreOpenings (A.built automaton).dictionary openings
  pub may : MayPass (A.built automaton).dictionary openings.len (A.Reaches automaton No) start
  pub before : two.last ≤ start
  pub quiet : (text : List ℕ) (sid : StateID) → A.Reaches automaton No text sid → A.matches automaton sid ≡ []
      → ¬ IsLive (A.built automaton).dictionary false text None → ¬ IsTrue (is_between two sid)

-- An automaton may read on by these skips to the first state between two numbers. Each byte that is no starter leads
-- from the start to itself. An unanchored search may pass by the openings, if the start's number is greater than both.
pub record MayReadBy {S : Type 0} (A : Ghosts S) (automaton : S) (skips : Skips) (two : Between) : Type 0 where
  pub stays : (anchored : Anchored) → StaysBut (A.Reaches automaton anchored) skips.starters skips.start
  pub passes : (openings : Openings) (sid : StateID) → skips.openings ≡ Some openings → two.last < skips.start
      → IsReached (A.Reaches automaton No) sid → MaySkipBy A automaton openings skips.start two

-- ---- what was passed

-- A search passed `skipped` bytes, each counted as one look, and then read `end` bytes from the start: one fewer than an
-- opening has. No pattern opens at a place that it passed.
pub record HasPassed {S : Type 0} (A : Ghosts S) (automaton : S) (openings : Openings) (start : StateID) (bytes : List ℕ)
    (stop : Advance) (before after : Steps) : Type 0 where
  pub skipped : ℕ
  pub end : ℕ
  pub taken : skipped + end ≡ stop.taken
  pub within : stop.taken ≤ length bytes
  pub short : openings.len ≡ end + 1
  pub none : PassesOpenings openings bytes skipped
  pub between : Steps
  pub looks : Done skipped 0 0 before between
  pub reads : ReadsAll A automaton start (take end (drop skipped bytes)) stop.sid between after

-- ---- special states

-- The last state at which a search has more to do than to read on: the anchored start if there is a prefilter,
-- otherwise the last one that matches.
abbrev pub last_special_of : Option Filter → ℕ → ℕ → ℕ
last_special_of None start_anchored max_match = max_match
last_special_of (Some f) start_anchored max_match = start_anchored

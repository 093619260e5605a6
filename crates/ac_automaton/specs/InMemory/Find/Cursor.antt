-- Where a search stands, which match the state has there, and what it costs to read on.
use Rattle.std.specs.Prelude.{◌≡◌, ℕ, ◌-◌, ◌<◌, ◌≤◌, ◌==◌, ◌||◌, not, Bool, false, List, [], length, Option, None, Some, get_or, slice_get, slice_range, option_map}
use Rattle.std.specs.List.{filter}
use Rattle.ac_input.specs.Number.{StateID}
use Rattle.ac_input.specs.declared.search.Anchored.{Anchored}
use Rattle.ac_input.specs.declared.search.Anchored.TheVariants.{Yes}
use Rattle.ac_input.specs.declared.search.Span.{Span}
use Rattle.ac_input.specs.declared.steps.Steps.{Steps}
use Rattle.ac_input.specs.Input.{Asked, is_anchored}
use Rattle.ac_input.specs.Best.{IsBest}
use Rattle.ac_input.specs.Dictionary.{Dictionary, IsLive, live_len, whole}
use Rattle.ac_input.specs.Occurrence.{Search, Occurrence, starting_at}
use Rattle.ac_input.specs.Tells.{Tells, ending_at}
use Rattle.ac_input.specs.Work.{IsLookups}
use Rattle.ac_automaton.specs.Automaton.{Built, searched}
use Rattle.ac_automaton.specs.declared.in_memory.find.cursor.Cursor.{Cursor}

-- the bytes that a search has read when it stands at a place
abbrev pub read_to : Search → ℕ → List ℕ
read_to s at = slice_range s.haystack s.start at

-- the search, starting where the walk of a cursor began
abbrev pub walked : Search → Cursor → Search
walked s cursor = starting_at s cursor.from

-- The state was reached by the bytes between two places of the span.
pub record IsCursor (Reaches : List ℕ → StateID → Type 0) (s : Search) (cursor : Cursor) : Type 0 where
  pub behind : s.start ≤ cursor.from
  pub ordered : cursor.from ≤ cursor.at
  pub within : cursor.at ≤ s.end
  pub inside : s.end ≤ length s.haystack
  pub reads : Reaches (read_to (walked s cursor) cursor.at) cursor.sid

-- a text after which a walk goes on: it brought no match, and isn't dead
pub record IsQuiet (m : Dictionary) (anchored : Anchored) (text : List ℕ) : Type 0 where
  pub nothing : Tells m anchored text []
  pub alive : (from : ℕ) × IsLive m (is_anchored anchored) text (Some from)

-- A cursor read on: no state on the way matched or was dead, and this is what the looks cost.
pub record HasReadOn (b : Built) (anchored : Anchored) (s : Search) (from to : Cursor)
    (before after : Steps) : Type 0 where
  pub further : from.at < to.at
  pub quiet : (at : ℕ) → from.at < at → at < to.at → IsQuiet b.dictionary anchored (read_to (walked s from) at)
  pub lookups : (live live_after : Option ℕ)
      → IsLive b.dictionary (is_anchored anchored) (read_to (walked s from) from.at) live
      → IsLive b.dictionary (is_anchored anchored) (read_to (walked s from) to.at) live_after
      → IsLookups b.deterministic (to.at - from.at) (live_len (read_to (walked s from) from.at) live)
      (live_len (read_to (walked s from) to.at) live_after) before after

-- nothing occurs in the bytes that a cursor of an input's search has read
abbrev pub HasNoneYet : Built → Asked → Cursor → Type 0
HasNoneYet b asked cursor =
    IsBest b.dictionary.kind (whole b.dictionary (read_to (walked (searched b asked) cursor) cursor.at) false) None

-- Whether an entry counts at a state that was reached by this many bytes. From the anchored start only patterns of that
-- length do.
abbrev pub counts : Dictionary → Bool → ℕ → ℕ → Bool
counts m anchored read n = not anchored || (length (get_or m.patterns n []) == read)

-- the entries of a list that count
abbrev pub counted : Dictionary → Bool → ℕ → List ℕ → List ℕ
counted m anchored read ns = filter (counts m anchored read) ns

-- the match of a list at a place: its first entry
abbrev pub IsFirstAt : Dictionary → ℕ → List ℕ → Occurrence → Type 0
IsFirstAt m at ns o = Some o ≡ option_map (ending_at m at) (slice_get ns 0)

-- the match of the list after this many bytes: the first entry that counts
abbrev pub taken : Dictionary → Anchored → ℕ → ℕ → List ℕ → Option Occurrence
taken m anchored at bytes ns = option_map (ending_at m at) (slice_get (counted m (is_anchored anchored) bytes ns) 0)

-- ---- for the search of an input

-- the state was reached by bytes of the input
abbrev pub StandsIn : Built → (Anchored → List ℕ → StateID → Type 0) → Asked → Cursor → Type 0
StandsIn b Reaches asked cursor = IsCursor (Reaches asked.anchored) (searched b asked) cursor

-- the cursor read on: no state on the way matched or was dead
abbrev pub ReadsFurther : Built → Asked → Cursor → Cursor → Steps → Steps → Type 0
ReadsFurther b asked from to before after = HasReadOn b asked.anchored (searched b asked) from to before after

-- the result is the match of the state where a walk stands
abbrev pub IsTaken : Built → (StateID → List ℕ) → Asked → Cursor → Option Occurrence → Type 0
IsTaken b matches asked cursor r =
    r ≡ taken b.dictionary asked.anchored cursor.at (cursor.at - cursor.from) (matches cursor.sid)

-- the state is reached by a text of at most `at` bytes
abbrev pub IsReachedWithin : (List ℕ → StateID → Type 0) → StateID → ℕ → Type 0
IsReachedWithin Reaches sid at = (text : List ℕ) × Reaches text sid × (length text ≤ at)

-- the result is the match of a state at the end of a span: the first pattern of its list that is as long as the span
abbrev pub IsWholeTaken : Built → (StateID → List ℕ) → StateID → Span → Option Occurrence → Type 0
IsWholeTaken b matches sid span r = r ≡ taken b.dictionary Yes span.end (span.end - span.start) (matches sid)

-- What a search of a stream keeps between its calls, and how it goes on over the held bytes.
pub mod Walk
use Rattle.std.specs.Prelude.{◌≡◌, ℕ, ◌+◌, ◌*◌, ◌≤◌, Bool, true, false, IsTrue, List, [], ◌∷◌, ◌++◌, length, take, slice_range, Option, None, Some, max, drop}
use Rattle.std.specs.List.{concat}
use Rattle.ac_input.specs.Number.{StateID}
use Rattle.ac_input.specs.declared.search.MatchKind.TheVariants.{Standard}
use Rattle.ac_input.specs.declared.steps.Steps.{Steps}
use Rattle.ac_input.specs.Best.{IsBest}
use Rattle.ac_input.specs.Dictionary.{IsLive, live_len, whole}
use Rattle.ac_input.specs.Laws.LiveLaws.{shifted_best}
use Rattle.ac_input.specs.Occurrence.{Occurrence}
use Rattle.ac_input.specs.Steps.{Done}
use Rattle.ac_input.specs.Walk.{IsWalk}
use Rattle.ac_automaton.specs.Automaton.{Built}
use Rattle.ac_automaton.specs.Stream.Devices.Buffer.{Held, IsRollPaid}
use Rattle.ac_automaton.specs.InMemory.Replace.{matches_in}
use Rattle.ac_automaton.specs.Stream.{StreamProgress, CanBeCounted, FindsHeld, IsOnCourse, read_again, read_by, Picks}
use Rattle.ac_automaton.specs.declared.stream.search.Progress.{Progress}
use Rattle.ac_input.specs.Work.{longest}

-- ---- what is kept

-- the bytes that the automaton has read since the last match
abbrev pub since_last : StreamProgress Picks → List ℕ
since_last s = slice_range (read_by s) s.last s.at

-- Whatever is still read, a walk from where the search last began anew continues the returned matches to a walk over
-- all of it.
abbrev pub ContinuesWalk : StreamProgress Picks → Type 0
ContinuesWalk s =
    (more : List ℕ) (rest : List Occurrence)
    → (s.closed ≡ true → more ≡ [])
    → IsWalk s.built.dictionary.kind (whole s.built.dictionary (read_by s ++ more) false) s.last (Some s.last) rest
    → IsWalk s.built.dictionary.kind (whole s.built.dictionary (read_by s ++ more) false) 0 None (s.given ++ rest)

-- how many bytes a search has passed, those that it read again after matches included
abbrev pub passed_in_all : StreamProgress Picks → ℕ
passed_in_all s = s.at + read_again s.built.dictionary 0 (length s.given)

-- The bytes that a search has passed, those read again included, pay for the looks and for one more look for each live
-- byte.
abbrev pub IsSearchPaid : StreamProgress Picks → Type 0
IsSearchPaid s =
    (live : Option ℕ) → IsLive s.built.dictionary false (since_last s) live
    → (s.looked + live_len (since_last s) live ≤ 2 * passed_in_all s) × (s.at ≤ s.looked)
    × (IsTrue s.built.deterministic → s.looked ≤ passed_in_all s)

-- A search stands in a state that was reached from the start by the bytes since the last match, which aren't dead. The
-- best match in these is still to be decided; under standard there is none.
pub record StandsInState (Reaches : List ℕ → StateID → Type 0) (s : StreamProgress Picks) (start sid : StateID)
    (best : Option Occurrence) : Type 0 where
  pub course : IsOnCourse s
  pub begins : Reaches [] start
  pub reads : Reaches (since_last s) sid
  pub found : Option Occurrence
  pub kept : best ≡ shifted_best s.last found
  pub told : IsBest s.built.dictionary.kind (whole s.built.dictionary (since_last s) false) found
  pub quiet : s.built.dictionary.kind ≡ Standard → found ≡ None
  pub live : ℕ
  pub alive : IsLive s.built.dictionary false (since_last s) (Some live)
  pub goes : ContinuesWalk s
  pub lookups : IsSearchPaid s

-- what a search over the held bytes is passed about how far it has come
pub record IsHeldAt (b : Built) (Reaches : List ℕ → StateID → Type 0) (s : StreamProgress Picks) (start : StateID)
    (p : Progress) (held : List ℕ) : Type 0 where
  pub built : s.built ≡ b
  pub stands : StandsInState Reaches s start p.sid p.best
  pub closed : p.closed ≡ s.closed
  pub from : p.from ≡ s.from
  pub at : p.at ≡ s.at
  pub last : p.last ≡ s.last
  pub bytes : held ≡ drop s.from (read_by s)
  pub countable : CanBeCounted (read_by s)

-- a match, or none, as a list
abbrev pub some_of : Option Occurrence → List Occurrence
some_of None = []
some_of (Some o) = o ∷ []

-- where a search over the held bytes has come, and the match that it found
pub record Searched : Type 0 where
  pub progress : Progress
  pub found : Option Occurrence

-- the match was found, and the search begins anew at its end
abbrev pub searched_anew : StateID → Progress → Occurrence → Searched
searched_anew start p o =
    record {
      progress = record { sid = start; from = p.from; at = o.end; last = o.end; best = None; closed = p.closed };
      found = Some o;
    }

-- how far a search that waits for a match to be decided has come when it has read on to a place, with so many looks
-- more
abbrev pub waits : StreamProgress Picks → ℕ → ℕ → StreamProgress Picks
waits s at looks = record s { at = at; looked = s.looked + looks }

-- how far a search has come after a call with this result
abbrev pub after_search : StreamProgress Picks → Searched → ℕ → StreamProgress Picks
after_search s r looks =
    record s
    { given = s.given ++ some_of r.found; at = r.progress.at; last = r.progress.last; looked = s.looked + looks }

-- A search over the held bytes went on to the next match, or to the end of these bytes.
pub record SearchesOn (Reaches : List ℕ → StateID → Type 0) (s : StreamProgress Picks) (start : StateID) (r : Searched)
    (before after : Steps) : Type 0 where
  pub looks : ℕ
  pub done : Done looks 0 0 before after
  pub closed : r.progress.closed ≡ s.closed
  pub from : r.progress.from ≡ s.from
  pub finds : FindsHeld s r.found (after_search s r looks)
  pub stands : StandsInState Reaches (after_search s r looks) start r.progress.sid r.progress.best

-- the buffer holds the bytes that the search has to hold, and counts the bytes that it read and moved
pub record HoldsRead (s : StreamProgress Picks) (buffer : Held) : Type 0 where
  pub bytes : buffer.bytes ≡ drop s.from (read_by s)
  pub keep : buffer.keep ≡ max (longest s.built.dictionary.patterns) 1
  pub read : buffer.read ≡ length (read_by s)
  pub moved : buffer.moved ≡ s.moved
  pub paid : IsRollPaid buffer

-- how far a search has come, from what it keeps
abbrev pub progress_at : Built → List (List ℕ) → ℕ → Progress → Held → Steps → StreamProgress Picks
progress_at b pieces count progress buffer sums =
    record {
      built = b;
      pieces = pieces;
      closed = progress.closed;
      given = take count (matches_in b (concat pieces));
      from = progress.from;
      at = progress.at;
      last = progress.last;
      looked = sums.looked.value;
      scanned = sums.scanned.value;
      moved = buffer.moved;
    }

-- The state that a search keeps between its calls is right.
pub record IsStreamSearch (Reaches : List ℕ → StateID → Type 0) (s : StreamProgress Picks) (start sid : StateID)
    (best : Option Occurrence) (count : ℕ) (buffer : Held) (over : Bool) : Type 0 where
  pub stands : StandsInState Reaches s start sid best
  pub number : length s.given ≡ count
  pub holds : HoldsRead s buffer
  pub countable : over ≡ false → CanBeCounted (read_by s)
  pub uncountable : over ≡ true → ¬ CanBeCounted (read_by s)

-- What a search of a stream for every occurrence keeps between its calls, and how it goes on over the bytes of the last
-- read.
use Rattle.std.specs.Prelude.{◌≡◌, ℕ, ◌+◌, ◌*◌, ◌<◌, ◌≤◌, Bool, true, false, IsTrue, List, [], ◌∷◌, ◌++◌, length, map, take, drop, vec_len, Option, Result, Ok, Err}
use Rattle.std.specs.Global.{Vec}
use Rattle.std.specs.List.{concat}
use Rattle.ac_input.specs.Number.{usize_max, StateID}
use Rattle.ac_input.specs.declared.steps.Steps.{Steps}
use Rattle.ac_input.specs.Dictionary.{IsLive, live_len}
use Rattle.ac_input.specs.Steps.{Done}
use Rattle.ac_input.specs.Tells.{ending}
use Rattle.ac_automaton.specs.Automaton.{Built}
use Rattle.ac_automaton.specs.Stream.Devices.Buffer.{least_room}
use Rattle.ac_automaton.specs.Stream.Devices.Moved.{HasGiven}
use Rattle.ac_automaton.specs.Stream.{CanBeCounted, FindsHeld, IsOnCourse, Occurrences, StreamProgress, items_of, read_by}
use Rattle.ac_automaton.specs.Stream.Search.{some_of}
use Rattle.ac_automaton.specs.declared.stream.overlapping.search.ListPlace.{ListPlace}
use Rattle.ac_automaton.specs.declared.stream.overlapping.search.Listed.{Listed}
use Rattle.ac_automaton.specs.declared.stream.devices.watched.Watched.{Watched}

-- ---- what is kept

-- the bytes that were searched
abbrev pub searched_by : StreamProgress Occurrences → List ℕ
searched_by s = take s.at (read_by s)

-- A search stands in a state that was reached by the bytes searched. The occurrences in these that were not returned
-- yet are the rest of the state's list. It has counted the looks for these bytes.
pub record StandsInList (Reaches : List ℕ → StateID → Type 0) (matches : StateID → List ℕ)
    (s : StreamProgress Occurrences) (place : ListPlace) : Type 0 where
  pub course : IsOnCourse s
  pub at : place.at ≡ s.at
  pub from : place.from ≡ s.from
  pub reads : Reaches (searched_by s) place.sid
  pub len : place.len ≡ length (matches place.sid)
  pub few : place.len ≤ usize_max
  pub left : items_of Occurrences s.built.dictionary (searched_by s)
      ≡ s.given ++ map (ending s.built.dictionary (searched_by s)) (drop place.index (matches place.sid))
  pub lookups : (live : Option ℕ) → IsLive s.built.dictionary false (searched_by s) live
      → (s.looked + live_len (searched_by s) live ≤ 2 * s.at) × (s.at ≤ s.looked)
      × (IsTrue s.built.deterministic → s.looked ≤ s.at)

-- what a search over the bytes of the last read is passed about how far it has come
pub record IsListedAt (b : Built) (Reaches : List ℕ → StateID → Type 0) (matches : StateID → List ℕ)
    (s : StreamProgress Occurrences) (place : ListPlace) (held : List ℕ) : Type 0 where
  pub built : s.built ≡ b
  pub stands : StandsInList Reaches matches s place
  pub bytes : held ≡ drop place.from (read_by s)
  pub countable : CanBeCounted (read_by s)

-- how far a search has come when it has read on to a place, with so many looks more
abbrev pub listed_to : StreamProgress Occurrences → ℕ → ℕ → StreamProgress Occurrences
listed_to s at looks = record s { at = at; last = at; looked = s.looked + looks }

-- how far a search has come after one more occurrence, if there is one
abbrev pub after_listed : StreamProgress Occurrences → Listed → ℕ → StreamProgress Occurrences
after_listed s r looks = record (listed_to s r.place.at looks) { given = s.given ++ some_of r.found }

-- A search has read on to the next state that matches, or to the last byte.
pub record HasReadHeld (Reaches : List ℕ → StateID → Type 0) (matches : StateID → List ℕ)
    (s : StreamProgress Occurrences) (place there : ListPlace) (before after : Steps) : Type 0 where
  pub looks : ℕ
  pub done : Done looks 0 0 before after
  pub from : there.from ≡ place.from
  pub on : s.at ≤ there.at
  pub stands : StandsInList Reaches matches (listed_to s there.at looks) there
  pub further : there.index < there.len → s.at < there.at
  pub all : there.len ≤ there.index → there.at ≡ length (read_by s)

-- A search went on to the next occurrence, or to the end of what was read.
pub record ListsOn (Reaches : List ℕ → StateID → Type 0) (matches : StateID → List ℕ) (s : StreamProgress Occurrences)
    (place : ListPlace) (r : Listed) (before after : Steps) : Type 0 where
  pub looks : ℕ
  pub done : Done looks 0 0 before after
  pub from : r.place.from ≡ place.from
  pub finds : FindsHeld s r.found (after_listed s r looks)
  pub stands : StandsInList Reaches matches (after_listed s r looks) r.place

-- how far a search has come, from what it keeps
abbrev pub listing_at : Built → List (List ℕ) → ℕ → ListPlace → Steps → StreamProgress Occurrences
listing_at b pieces count place sums =
    record {
      built = b;
      pieces = pieces;
      closed = false;
      given = take count (items_of Occurrences b.dictionary (concat pieces));
      from = place.from;
      at = place.at;
      last = place.at;
      looked = sums.looked.value;
      scanned = sums.scanned.value;
      moved = sums.moved.value;
    }

-- The state that a search keeps between its calls is right.
pub record IsListingSearch (Reaches : List ℕ → StateID → Type 0) (matches : StateID → List ℕ)
    (s : StreamProgress Occurrences) (place : ListPlace) (count room : ℕ) (held : List ℕ) (filled : ℕ)
    (over : Bool) : Type 0 where
  pub stands : StandsInList Reaches matches s place
  pub number : length s.given ≡ count
  pub long : room ≡ least_room
  pub fits : filled ≤ room
  pub bytes : held ≡ drop place.from (read_by s)
  pub countable : over ≡ false → CanBeCounted (read_by s)
  pub uncountable : over ≡ true → ¬ CanBeCounted (read_by s)

-- ---- a read

-- one read returned the first bytes of a buffer, this many of them
pub record FrontFilled {R : Type 0} (remaining : R → Option (List ℕ)) (items : List ℕ) (room : ℕ)
    (before after : Watched R) (n : ℕ) : Type 0 where
  pub fits : n ≤ room
  pub count : length (take n items) ≡ n
  pub read : HasGiven remaining before after (take n items ∷ []) 0

-- one read returned the first bytes of a buffer, or failed
abbrev pub FillsFront : {R E : Type 0} → (R → Option (List ℕ)) → Vec ℕ → Watched R → Watched R → Result ℕ E → Type 0
FillsFront remaining bytes before after (Ok n) = FrontFilled remaining bytes.items (vec_len bytes) before after n
FillsFront remaining bytes before after (Err error) = HasGiven remaining before after ([] ∷ []) 1

-- What was read ahead of a search.
use Rattle.std.specs.Prelude.{◌≡◌, ◌⊎◌, ℕ, ◌+◌, ◌-◌, ◌*◌, ◌<◌, ◌≤◌, min, nat_le, if◌then◌else◌, Bool, IsTrue, List, [], ◌∷◌, ◌++◌, length, take, drop, get_or, Option, unwrap_or, slice_range, slice_set}
use Rattle.std.specs.List.{All}
use Rattle.ac_input.specs.Number.{StateID}
use Rattle.ac_input.specs.declared.search.Anchored.TheVariants.{No}
use Rattle.ac_input.specs.declared.search.MatchKind.TheVariants.{Standard}
use Rattle.ac_input.specs.declared.steps.Steps.{Steps}
use Rattle.ac_input.specs.Alphabet.{has}
use Rattle.ac_input.specs.Steps.{Done}
use Rattle.ac_automaton.specs.Automaton.{Built, IsReached, Leads, PassesPlain, is_matching}
use Rattle.ac_automaton.specs.declared.ahead.Ahead.{Ahead}
use Rattle.ac_automaton.specs.declared.ahead.Note.{Note}
use Rattle.ac_automaton.specs.declared.lanes.Lane.{Lane}
use Rattle.ac_automaton.specs.declared.lanes.Lanes.{Lanes}
use Rattle.ac_automaton.specs.declared.look.LookUp.{Ghosts}

-- ---- notes

-- an automaton reads at most so many bytes ahead at a time
abbrev pub most_ahead : ℕ
most_ahead = 8192

-- how many bytes some notes cover
abbrev pub noted_len : List Note → ℕ
noted_len [] = 0
noted_len (note ∷ notes) = note.len + noted_len notes

-- The bytes of a note, of which there are some, lead from one state to another, and no state between the two matches.
pub record IsNote (Reaches : List ℕ → StateID → Type 0) (matches : StateID → List ℕ) (bytes : List ℕ)
    (note : Note) : Type 0 where
  pub some : 0 < note.len
  pub within : note.from + note.len ≤ length bytes
  pub begins : IsReached Reaches note.sid
  pub reads : Leads Reaches note.sid (take note.len (drop note.from bytes)) note.next
  pub plain : PassesPlain Reaches (is_matching matches) note.sid (drop note.from bytes) note.len

-- Each text that ends in the byte leads a search to this one state, where no pattern matches.
pub record Frees (Reaches : List ℕ → StateID → Type 0) (matches : StateID → List ℕ) (byte : ℕ)
    (sid : StateID) : Type 0 where
  pub only : (text : List ℕ) (other : StateID) → Reaches (text ++ byte ∷ []) other → other ≡ sid
  pub quiet : matches sid ≡ []

-- the state from which a search goes on: where a pattern matches, the one in which it begins anew, if it does
abbrev pub onward : (StateID → List ℕ) → Option StateID → StateID → StateID
onward matches anew sid = if is_matching matches sid then unwrap_or anew sid else sid

-- A search that stands at a place in a state comes to the note and takes it: the note begins there in that state, or
-- later, after a byte that frees the search for the note's state.
pub record ComesTo (Free : ℕ → StateID → Type 0) (bytes : List ℕ) (at : ℕ) (sid : StateID) (note : Note) : Type 0 where
  pub later : at ≤ note.from
  pub here : at ≡ note.from → note.sid ≡ sid
  pub freed : at < note.from → Free (get_or bytes (note.from - 1) 0) note.sid

-- A search that stands at a place in a state takes each of these notes in order, and then stands at another place in
-- another state.
-- Between them lie bytes that free it.
abbrev pub TakesBy : (ℕ → StateID → Type 0) → (StateID → List ℕ) → Option StateID → List ℕ → ℕ → StateID → List Note → ℕ
    → StateID → Type 0
TakesBy Free matches anew bytes at sid [] to next = (to ≡ at) × (next ≡ sid)
TakesBy Free matches anew bytes at sid (note ∷ notes) to next =
    ComesTo Free bytes at sid note
    × TakesBy Free matches anew bytes (note.from + note.len) (onward matches anew note.next) notes to next

-- the bytes that free a search are those that lead each one to the state
abbrev pub IsNext : (List ℕ → StateID → Type 0) → (StateID → List ℕ) → List ℕ → ℕ → StateID → Note → Type 0
IsNext Reaches matches = ComesTo (Frees Reaches matches)

-- a search takes each of these notes, and between them lie bytes that lead each search to one state
abbrev pub TakesTo : (List ℕ → StateID → Type 0) → (StateID → List ℕ) → Option StateID → List ℕ → ℕ → StateID
    → List Note → ℕ → StateID → Type 0
TakesTo Reaches matches = TakesBy (Frees Reaches matches) matches

-- a search that stands at a place in a state takes each of these notes, in order
abbrev pub TakesEachBy : (ℕ → StateID → Type 0) → (StateID → List ℕ) → Option StateID → List ℕ → ℕ → StateID → List Note
    → Type 0
TakesEachBy Free matches anew bytes at sid notes =
    (to : ℕ) × (next : StateID) × TakesBy Free matches anew bytes at sid notes to next

-- the same, where the bytes between lead each search to one state
abbrev pub TakesEach : (List ℕ → StateID → Type 0) → (StateID → List ℕ) → Option StateID → List ℕ → ℕ → StateID
    → List Note → Type 0
TakesEach Reaches matches = TakesEachBy (Frees Reaches matches) matches

-- An automaton has read so many bytes ahead of a search, of the next `len` from a place on: just those that these notes
-- cover, and none if it has no lanes. It looked at one state for each. A search of the standard kind takes each note.
pub record ReadsAheadBy (Free : ℕ → StateID → Type 0) (b : Built) (Reaches : List ℕ → StateID → Type 0)
    (matches : StateID → List ℕ) (anew : Option StateID) (sid : StateID) (bytes : List ℕ) (at len read : ℕ)
    (notes : List Note) (before after : Steps) : Type 0 where
  pub are : All (IsNote Reaches matches bytes) notes
  pub within : All (λ note. (at ≤ note.from) × (note.from + note.len ≤ at + len)) notes
  pub covered : noted_len notes ≡ read
  pub most : read ≤ len
  pub lanes : ¬ IsTrue b.lanes → read ≡ 0
  pub counted : Done read 0 0 before after
  pub taken : b.dictionary.kind ≡ Standard → TakesEachBy Free matches anew bytes at sid notes

-- the same, where the bytes between the notes lead each search to one state
abbrev pub ReadsAhead : Built → (List ℕ → StateID → Type 0) → (StateID → List ℕ) → Option StateID → StateID → List ℕ → ℕ
    → ℕ → ℕ → List Note → Steps → Steps → Type 0
ReadsAhead b Reaches matches = ReadsAheadBy (Frees Reaches matches) b Reaches matches

-- ---- what a search keeps of it

-- the notes that a search may still take
abbrev pub left_notes : Ahead → List Note
left_notes ahead = drop ahead.next (take ahead.end ahead.notes)

-- how many bytes were read ahead that the search hasn't passed by their notes
abbrev pub bytes_ahead : Ahead → ℕ
bytes_ahead ahead = noted_len (left_notes ahead) + ahead.lost.value

-- What was read ahead of a search that stands at a place of the bytes in a state: nothing by an automaton without lanes.
-- A search of the standard kind loses no note.
pub record IsAhead (b : Built) (Reaches : List ℕ → StateID → Type 0) (matches : StateID → List ℕ)
    (anew : Option StateID) (bytes : List ℕ) (at : ℕ) (sid : StateID) (ahead : Ahead) : Type 0 where
  pub room : ahead.end ≤ length ahead.notes
  pub are : All (IsNote Reaches matches bytes) (left_notes ahead)
  pub most : noted_len (left_notes ahead) ≤ most_ahead
  pub none : ¬ IsTrue b.lanes → bytes_ahead ahead ≡ 0
  pub taken : b.dictionary.kind ≡ Standard
      → (ahead.lost.value ≡ 0) × TakesEach Reaches matches anew bytes at sid (left_notes ahead)

-- of some notes, the first that begins at the place or later, and those after it
abbrev pub notes_from : ℕ → List Note → List Note
notes_from at [] = []
notes_from at (note ∷ notes) = if nat_le at note.from then note ∷ notes else notes_from at notes

-- all but the next note and what was lost is the same
pub record KeepsNotes (before after : Ahead) : Type 0 where
  pub notes : after.notes ≡ before.notes
  pub end : after.end ≡ before.end
  pub until : after.until ≡ before.until
  pub block : after.block ≡ before.block

-- The notes that begin before a place are lost, up to the first that doesn't.
pub record HasSkipped (at : ℕ) (before after : Ahead) : Type 0 where
  pub left : left_notes after ≡ notes_from at (left_notes before)
  pub ahead : bytes_ahead after ≡ bytes_ahead before
  pub same : KeepsNotes before after

-- All notes are lost, and nothing more is read ahead up to a place.
pub record HasForgotten (before : Ahead) (place : ℕ) (after : Ahead) : Type 0 where
  pub left : left_notes after ≡ []
  pub ahead : bytes_ahead after ≡ bytes_ahead before
  pub until : after.until ≡ place
  pub room : after.end ≤ length after.notes

-- Before these bytes, `base` bytes were read. No byte of all these was read ahead twice, and none after the place up to
-- which nothing more is read ahead.
abbrev pub IsReadOnce : ℕ → List ℕ → Ahead → Type 0
IsReadOnce base bytes ahead = bytes_ahead ahead ≤ base + min ahead.until (length bytes)

-- Before a place, nothing was read ahead. No byte of the bytes was read ahead twice, and none after the place up to
-- which nothing more is read ahead.
abbrev pub IsReadOnceFrom : ℕ → List ℕ → Ahead → Type 0
IsReadOnceFrom first bytes ahead = min first (length bytes) + bytes_ahead ahead ≤ min ahead.until (length bytes)

-- A call read at most as many bytes ahead as it moved the place up to which nothing more is read ahead. So if no byte
-- was read ahead twice before it, none was after it.
abbrev pub StaysReadOnce : List ℕ → Ahead → Ahead → Type 0
StaysReadOnce bytes before after =
    bytes_ahead after + min before.until (length bytes) ≤ bytes_ahead before + min after.until (length bytes)

-- What a call's bytes cost, whenever they were looked at: the looks that the call made, and those that were made ahead
-- of it, less those that it made ahead of later bytes.
pub record Settles (before after : Ahead) (steps paid : Steps) : Type 0 where
  pub looked : paid.looked.value + bytes_ahead after ≡ steps.looked.value + bytes_ahead before
  pub scanned : paid.scanned.value ≡ steps.scanned.value
  pub moved : paid.moved.value ≡ steps.moved.value

-- this holds of what a call's bytes cost
abbrev pub IsPaid : Ahead → Ahead → Steps → (Steps → Type 0) → Type 0
IsPaid before after steps P = (paid : Steps) × Settles before after steps paid × P paid

-- what a search counted, less what was looked at ahead of it: the cost of the bytes that it has passed
abbrev pub less_ahead : Steps → Ahead → Steps
less_ahead sums ahead = record sums { looked = record sums.looked { value = sums.looked.value - bytes_ahead ahead } }

-- ---- several walks side by side

-- a property holds of each of the four lanes
pub record EachLane (P : Lane → Type 0) (lanes : Lanes) : Type 0 where
  pub a : P lanes.a
  pub b : P lanes.b
  pub c : P lanes.c
  pub d : P lanes.d

-- a relation holds between each of the four lanes, as it was and as it is
pub record EachPair (R : Lane → Lane → Type 0) (before after : Lanes) : Type 0 where
  pub a : R before.a after.a
  pub b : R before.b after.b
  pub c : R before.c after.c
  pub d : R before.d after.d

-- a lane that has read nothing yet
abbrev pub lane_from : ℕ → StateID → ℕ → ℕ → ℕ → Lane
lane_from at sid end slot slots =
    record { from = at; first = sid; at = at; sid = sid; end = end; slot = slot; slots = slots }

-- A lane may begin at the place, past another place and at most so far: the byte before it is one of these.
pub record MayBegin (after : List Bool) (bytes : List ℕ) (from to place : ℕ) : Type 0 where
  pub past : from < place
  pub within : place ≤ to
  pub byte : get_or bytes (place - 1) 0 < 256
  pub is : IsTrue (has after (get_or bytes (place - 1) 0))

-- Walks side by side are cut after the byte, where this is the state.
pub record IsLaneCut (after : List Bool) (start : StateID) (matches : StateID → List ℕ) (byte : ℕ)
    (sid : StateID) : Type 0 where
  pub small : byte < 256
  pub is : IsTrue (has after byte)
  pub state : sid ≡ start
  pub quiet : matches sid ≡ []

-- no byte
abbrev pub NoByte : ℕ → StateID → Type 0
NoByte byte sid = ⊥

-- A lane begins at the place in the state, has some bytes to read, and owns some of so many notes.
pub record LaneBegins (at : ℕ) (sid : StateID) (slots : ℕ) (lane : Lane) : Type 0 where
  pub is : lane ≡ lane_from at sid lane.end lane.slot lane.slots
  pub some : at ≤ lane.end
  pub own : (lane.slot ≤ lane.slots) × (lane.slots ≤ slots)

-- each lane has notes of its own, after those of the lane before it
abbrev pub HaveOwnNotes : Lanes → Type 0
HaveOwnNotes lanes = (lanes.a.slots ≤ lanes.b.slot) × (lanes.b.slots ≤ lanes.c.slot) × (lanes.c.slots ≤ lanes.d.slot)

-- Four lanes cut the bytes from one place to another. The first begins in the state of the search. Each other one
-- begins in the start, just after one of the bytes of `after`.
pub record CutBytes (after : List Bool) (bytes : List ℕ) (at : ℕ) (sid start : StateID) (to slots : ℕ)
    (lanes : Lanes) : Type 0 where
  pub a : LaneBegins at sid slots lanes.a
  pub b : LaneBegins lanes.a.end start slots lanes.b
  pub c : LaneBegins lanes.b.end start slots lanes.c
  pub d : LaneBegins lanes.c.end start slots lanes.d
  pub cut_b : MayBegin after bytes at to lanes.a.end
  pub cut_c : MayBegin after bytes lanes.a.end to lanes.b.end
  pub cut_d : MayBegin after bytes lanes.b.end to lanes.c.end
  pub last : lanes.d.end ≡ to
  pub first : lanes.a.slot ≡ 0
  pub apart : HaveOwnNotes lanes

-- The bytes that a lane has read since its last note lead from its first state to the one where it stands, and a search
-- would stop at no state between.
pub record WalkedTo (Reaches : List ℕ → StateID → Type 0) (stops : StateID → Bool) (bytes : List ℕ)
    (lane : Lane) : Type 0 where
  pub ordered : lane.from ≤ lane.at
  pub within : lane.at ≤ length bytes
  pub begins : IsReached Reaches lane.first
  pub reads : Leads Reaches lane.first (take (lane.at - lane.from) (drop lane.from bytes)) lane.sid
  pub plain : PassesPlain Reaches stops lane.first (drop lane.from bytes) (lane.at - lane.from)
  pub reached : IsReached Reaches lane.sid

-- whether a state's number is at most `last`
abbrev pub is_up_to : StateID → StateID → Bool
is_up_to last sid = nat_le sid last

-- A lane that has read on, if at all, to a state at which a search wouldn't stop; its end lies within the bytes.
pub record HasWalked (Reaches : List ℕ → StateID → Type 0) (stops : StateID → Bool) (bytes : List ℕ)
    (lane : Lane) : Type 0 where
  pub to : WalkedTo Reaches stops bytes lane
  pub quiet : lane.from < lane.at → ¬ IsTrue (stops lane.sid)
  pub inside : (lane.at ≤ lane.end) × (lane.end ≤ length bytes)

-- each of the four lanes has read on, if at all, to a state at which a search wouldn't stop
abbrev pub HaveWalked : (List ℕ → StateID → Type 0) → (StateID → Bool) → List ℕ → Lanes → Type 0
HaveWalked Reaches stops bytes lanes = EachLane (HasWalked Reaches stops bytes) lanes

-- A lane has read at least one byte more, and may stand in a state at which a search stops.
pub record HasGone (Reaches : List ℕ → StateID → Type 0) (stops : StateID → Bool) (bytes : List ℕ)
    (before after : Lane) : Type 0 where
  pub to : WalkedTo Reaches stops bytes after
  pub on : before.at < after.at
  pub within : after.at ≤ after.end
  pub same : after ≡ record before { at = after.at; sid = after.sid }

-- each of the four lanes has read at least one byte more
abbrev pub HaveGone : (List ℕ → StateID → Type 0) → (StateID → Bool) → List ℕ → Lanes → Lanes → Type 0
HaveGone Reaches stops bytes before after = EachPair (HasGone Reaches stops bytes) before after

-- The four lanes have read the same number of bytes more, and one look was made for each byte.
pub record HaveRead (before after : Lanes) (old new : Steps) : Type 0 where
  pub read : ℕ
  pub each : EachPair (λ one other. other.at ≡ one.at + read) before after
  pub counted : Done (4 * read) 0 0 old new

-- a lane has a note left and at least `len` bytes, unless `len` is 0
abbrev pub HasRoomFor : ℕ → Lane → Type 0
HasRoomFor len lane = 0 < len → (lane.slot < lane.slots) × (lane.at + len ≤ lane.end)

-- each of the four lanes has a note left and at least `len` bytes, unless `len` is 0
abbrev pub HaveRoomFor : ℕ → Lanes → Type 0
HaveRoomFor len lanes = EachLane (HasRoomFor len) lanes

-- the note of what a lane has read since its last one
abbrev pub note_of : Lane → Note
note_of lane = record { from = lane.from; len = lane.at - lane.from; sid = lane.first; next = lane.sid }

-- A lane stores a note of what it has read since its last one, and goes on from a state.
pub record HasStored (next : StateID) (old new : List Note) (before after : Lane) : Type 0 where
  pub notes : new ≡ slice_set old before.slot (note_of before)
  pub lane : after ≡ record before { from = before.at; first = next; sid = next; slot = before.slot + 1 }

-- If a condition holds, a lane stores a note and goes on from a state. Else nothing changes.
pub record StoresIf (P : Type 0) (next : StateID) (old new : List Note) (before after : Lane) : Type 0 where
  pub stores : P → HasStored next old new before after
  pub keeps : ¬ P → (new ≡ old) × (after ≡ before)
  pub either : P ⊎ ¬ P

-- a lane has read something since its last note, and has a note left
abbrev pub HasMore : Lane → Type 0
HasMore lane = (lane.from < lane.at) × (lane.slot < lane.slots)

-- a lane has made notes since it began, in its own part of so many
abbrev pub StaysIn : ℕ → Lane → Lane → Type 0
StaysIn size begun lane = (begun.slot ≤ lane.slot) × (lane.slot ≤ begun.slots) × (begun.slots ≤ size)

-- the notes that a lane has made since it began
abbrev pub lane_notes : List Note → Lane → Lane → List Note
lane_notes notes begun lane = slice_range notes begun.slot lane.slot

-- A lane's notes cover what it has read up to its last note, and each begins where the one before it ends. Where this
-- is sure, a search that comes to the lane takes each.
pub record HasNoted (Reaches : List ℕ → StateID → Type 0) (matches : StateID → List ℕ) (anew : Option StateID)
    (sure : Type 0) (bytes : List ℕ) (notes : List Note) (begun lane : Lane) : Type 0 where
  pub slots : (begun.slot ≤ lane.slot) × (lane.slot ≤ lane.slots) × (lane.slots ≡ begun.slots)
  pub end : lane.end ≡ begun.end
  pub covered : begun.from + noted_len (lane_notes notes begun lane) ≡ lane.from
  pub are : All (IsNote Reaches matches bytes) (lane_notes notes begun lane)
  pub within : All (λ note. (begun.from ≤ note.from) × (note.from + note.len ≤ lane.from)) (lane_notes notes begun lane)
  pub taken : sure → TakesBy NoByte matches anew bytes begun.from begun.first (lane_notes notes begun lane) lane.from
      lane.first
  pub full : lane.slots ≤ lane.slot → lane.from ≡ lane.at

-- The notes of each lane cover what it has read up to its last note. Under the standard kind, a search that comes to
-- the lane takes each.
abbrev pub HaveNoted : {S : Type 0} → Ghosts S → S → Option StateID → List ℕ → List Note → Lanes → Lanes → Type 0
HaveNoted A automaton anew bytes notes begun lanes =
    EachPair
    (HasNoted (A.Reaches automaton No) (A.matches automaton) anew ((A.built automaton).dictionary.kind ≡ Standard) bytes
    notes) begun lanes

-- the notes of all four lanes, in order
abbrev pub lanes_notes : List Note → Lanes → Lanes → List Note
lanes_notes notes begun lanes =
    lane_notes notes begun.a lanes.a
    ++ (lane_notes notes begun.b lanes.b ++ (lane_notes notes begun.c lanes.c ++ lane_notes notes begun.d lanes.d))

-- What walking side by side requires of an automaton. It looks at one state for a byte, is built with lanes, a search begins
-- in `start`, and no state after `last` matches. Under the standard kind all others do, and a byte of `after` leads each search to the
-- start.
pub record MayNote {S : Type 0} (A : Ghosts S) (automaton : S) (start last : StateID) (after : List Bool) : Type 0 where
  pub one : IsTrue (A.built automaton).deterministic
  pub lanes : IsTrue (A.built automaton).lanes
  pub starts : A.Reaches automaton No [] start
  pub quiet : (sid : StateID) → last < sid → A.matches automaton sid ≡ []
  pub some : (A.built automaton).dictionary.kind ≡ Standard → (sid : StateID) → IsReached (A.Reaches automaton No) sid
      → sid ≤ last → IsTrue (is_matching (A.matches automaton) sid)
  pub frees : (A.built automaton).dictionary.kind ≡ Standard → (byte : ℕ) → byte < 256 → IsTrue (has after byte)
      → (text : List ℕ) (sid : StateID) → A.Reaches automaton No (text ++ byte ∷ []) sid → sid ≡ start

-- an automaton may walk side by side, where no state after `last` matches
abbrev pub MayWalkAside : {S : Type 0} → Ghosts S → S → StateID → Type 0
MayWalkAside A automaton last = (start : StateID) × (after : List Bool) × MayNote A automaton start last after

-- The bytes of a stream that are held in memory, and what reading and rolling do to them.
use Rattle.std.specs.Prelude.{◌≡◌, ℕ, ◌+◌, ◌-◌, ◌*◌, ◌≤◌, max, List, [], ◌∷◌, ◌++◌, length, drop, Option, Result, Ok, Err}
use Rattle.ac_input.specs.Number.{StateID}
use Rattle.ac_automaton.specs.Automaton.{Built}
use Rattle.ac_automaton.specs.Masking.{MasksFrom}
use Rattle.ac_automaton.specs.Stream.Devices.Moved.{HasGiven}
use Rattle.ac_automaton.specs.declared.automaton.Advance.{Advance}
use Rattle.ac_automaton.specs.declared.stream.devices.watched.Watched.{Watched}

-- What is held: some bytes, in a room that never grows; how many of them are kept at most when the room is full; how many were
-- read so far, and how many were moved within the room.
pub record Held : Type 0 where
  pub bytes : List ℕ
  pub room : ℕ
  pub keep : ℕ
  pub read : ℕ
  pub moved : ℕ

-- how much room a buffer for the bytes of a stream has at least: 64 KiB
abbrev pub least_room : ℕ
least_room = 65536

-- how much room there is for this many kept bytes: they take an eighth of it at most
abbrev pub room_for : ℕ → ℕ
room_for keep = max (keep * 8) least_room

-- nothing is held yet
abbrev pub nothing_held : ℕ → Held
nothing_held keep = record { bytes = []; room = room_for keep; keep = keep; read = 0; moved = 0 }

-- What holds of a buffer at any time. Seven bytes were read for each byte that was moved. Bytes held beyond those that may be kept
-- were read too, and have paid for no move yet.
pub record IsRollPaid (h : Held) : Type 0 where
  pub keeps : 1 ≤ h.keep
  pub room : h.room ≡ room_for h.keep
  pub within : length h.bytes ≤ h.room
  pub paid : 7 * h.moved + (length h.bytes - h.keep) ≤ h.read

-- one read returned this many bytes, which are held after the others
pub record Filled {R : Type 0} (remaining : R → Option (List ℕ)) (old new : Held) (before after : Watched R)
    (n : ℕ) : Type 0 where
  pub piece : List ℕ
  pub count : length piece ≡ n
  pub held : new ≡ record old { bytes = old.bytes ++ piece; read = old.read + n }
  pub read : HasGiven remaining before after (piece ∷ []) 0

-- these bytes were taken, and are held after the others
abbrev pub taken_into : Held → List ℕ → Held
taken_into old bytes = record old { bytes = old.bytes ++ bytes; read = old.read + length bytes }

-- a read filled the buffer further, or failed and left it unchanged
abbrev pub Fills : {R E : Type 0} → (R → Option (List ℕ)) → Held → Held → Watched R → Watched R → Result ℕ E → Type 0
Fills remaining old new before after (Ok n) = Filled remaining old new before after n
Fills remaining old new before after (Err error) = HasGiven remaining before after ([] ∷ []) 1 × (new ≡ old)

-- the held bytes from a place on were moved to the front
abbrev pub rolled : Held → ℕ → Held
rolled old from = record old { bytes = drop from old.bytes; moved = old.moved + (length old.bytes - from) }

-- Of the held bytes those from a place on were masked, by an automaton that stood in this state at the place. All of them were
-- read, and nothing else has changed.
pub record MasksHeld (b : Built) (Reaches : List ℕ → StateID → Type 0) (mask : ℕ) (sid : StateID) (from : ℕ)
    (old new : Held) (stop : Advance) : Type 0 where
  pub masks : MasksFrom b Reaches mask sid from old.bytes new.bytes stop.sid
  pub taken : from + stop.taken ≡ length old.bytes
  pub same : new ≡ record old { bytes = new.bytes }

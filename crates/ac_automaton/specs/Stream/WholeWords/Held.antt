-- The text of a stream that is searched for whole words: what was read of it, and which of its bytes are held.
use Rattle.std.specs.Prelude.{◌≡◌, ◌⊎◌, ℕ, ◌+◌, ◌*◌, ◌<◌, ◌≤◌, max, Bool, true, false, List, [], ◌∷◌, ◌++◌, length, drop, take, Option, Result, Ok, Err}
use Rattle.std.specs.List.{concat}
use Rattle.ac_input.specs.declared.steps.Steps.{Steps}
use Rattle.ac_input.specs.Steps.{AreNone, Done}
use Rattle.ac_automaton.specs.Stream.{CanBeCounted}
use Rattle.ac_automaton.specs.Stream.Devices.Buffer.{Held, IsRollPaid, room_for}
use Rattle.ac_automaton.specs.Stream.Devices.Moved.{HasGiven}
use Rattle.ac_automaton.specs.declared.error.StreamError.{StreamError}
use Rattle.ac_automaton.specs.declared.error.StreamError.TheVariants.{Position, Read}
use Rattle.ac_automaton.specs.declared.stream.devices.watched.Watched.{Watched}

-- A text as far as it was read: the pieces that were read or taken; whether it was told that no more comes; how many words were
-- returned; where the held bytes begin, which reach to the end of what was read; how many bytes are kept at most when the room is
-- full; how many bytes were moved; and what the searches in it counted. Places are counted from the first byte.
pub record TextRead : Type 0 where
  pub pieces : List (List ℕ)
  pub closed : Bool
  pub returned : ℕ
  pub from : ℕ
  pub keep : ℕ
  pub moved : ℕ
  pub sums : Steps

-- the bytes that were read
abbrev pub text_of : TextRead → List ℕ
text_of t = concat t.pieces

-- nothing was read yet of a text that is searched for patterns of at most so many bytes
pub record IsUnread (longest : ℕ) (t : TextRead) : Type 0 where
  pub pieces : t.pieces ≡ []
  pub closed : t.closed ≡ false
  pub returned : t.returned ≡ 0
  pub from : t.from ≡ 0
  pub keep : t.keep ≡ max longest 1 + 1
  pub moved : t.moved ≡ 0
  pub sums : AreNone t.sums

-- ---- what is kept

-- a text, from what is kept of it
abbrev pub text_come : List (List ℕ) → ℕ → Bool → ℕ → Held → Steps → TextRead
text_come pieces returned closed from buffer sums =
    record {
      pieces = pieces;
      closed = closed;
      returned = returned;
      from = from;
      keep = buffer.keep;
      moved = buffer.moved;
      sums = sums;
    }

-- What is kept of it is right: the buffer holds its last bytes, and counts those that it read and moved.
pub record IsTextHeld (t : TextRead) (buffer : Held) (over : Bool) : Type 0 where
  pub within : t.from ≤ length (text_of t)
  pub bytes : buffer.bytes ≡ drop t.from (text_of t)
  pub read : buffer.read ≡ length (text_of t)
  pub paid : IsRollPaid buffer
  pub countable : over ≡ false → CanBeCounted (text_of t)
  pub uncountable : over ≡ true → ¬ CanBeCounted (text_of t)

-- ---- what a call does

-- The bytes from a place on may be kept when there is no room: they are held, and few enough.
pub record CanKeepFrom (place : ℕ) (t : TextRead) : Type 0 where
  pub held : t.from ≤ place
  pub within : place ≤ length (text_of t)
  pub few : length (text_of t) ≤ place + t.keep

-- There is room. Bytes before a place may have been dropped for that.
pub record RollsTo (place : ℕ) (s t : TextRead) : Type 0 where
  pub same : t ≡ record s { from = t.from; moved = t.moved }
  pub from : (t.from ≡ s.from) ⊎ (t.from ≡ place)
  pub seventh : 7 * t.moved ≤ length (text_of s)
  pub room : length (text_of t) < t.from + room_for t.keep

-- the bytes that were moved were counted
abbrev pub CountsMoved : TextRead → TextRead → Steps → Steps → Type 0
CountsMoved s t before after = (bytes : ℕ) × Done 0 0 bytes before after × (t.moved ≡ s.moved + bytes)

-- no byte was moved or dropped
pub record MovesNothing (s t : TextRead) : Type 0 where
  pub from : t.from ≡ s.from
  pub moved : t.moved ≡ s.moved

-- A piece was added. Bytes before a place may have been dropped, to make room for it.
pub record Grows (place : ℕ) (s t : TextRead) (piece : List ℕ) : Type 0 where
  pub pieces : t.pieces ≡ s.pieces ++ piece ∷ []
  pub same : t ≡ record s { pieces = t.pieces; from = t.from; moved = t.moved }
  pub from : (t.from ≡ s.from) ⊎ (t.from ≡ place)
  pub seventh : 7 * t.moved ≤ length (text_of s)
  pub short : length piece ≤ room_for s.keep
  pub room : length (text_of t) ≤ t.from + room_for s.keep

-- The result of a read: how many bytes it returned, none at the end; or the error of a failed read; or that there are more
-- bytes than places.
abbrev pub ReadsText : {R : Type 0} → (R → Option (List ℕ)) → ℕ → TextRead → TextRead → Watched R → Watched R
    → Result ℕ StreamError → Type 0
ReadsText remaining place s t before after (Ok n) =
    (piece : List ℕ) × Grows place s t piece × HasGiven remaining before after (piece ∷ []) 0 × (length piece ≡ n)
    × CanBeCounted (text_of t)
ReadsText remaining place s t before after (Err (Read error)) =
    Grows place s t [] × HasGiven remaining before after ([] ∷ []) 1
ReadsText remaining place s t before after (Err Position) =
    (piece : List ℕ) × Grows place s t piece × HasGiven remaining before after (piece ∷ []) 0 × ¬ CanBeCounted (text_of t)
ReadsText remaining place s t before after (Err other) = ⊥

-- the first bytes of a piece were added: at least one, and all of them unless the room is full
pub record AddsFront (place : ℕ) (s t : TextRead) (piece : List ℕ) (n : ℕ) : Type 0 where
  pub grows : Grows place s t (take n piece)
  pub within : n ≤ length piece
  pub some : 0 < n
  pub full : n < length piece → length (text_of t) ≡ t.from + room_for s.keep

-- The result of a push: how many bytes of the piece were added; or that there are more bytes than places.
abbrev pub TakesText : ℕ → TextRead → TextRead → List ℕ → Result ℕ StreamError → Type 0
TakesText place s t piece (Ok n) = AddsFront place s t piece n × CanBeCounted (text_of t)
TakesText place s t piece (Err Position) = (n : ℕ) × AddsFront place s t piece n × ¬ CanBeCounted (text_of t)
TakesText place s t piece (Err other) = ⊥

-- What a call moved between two devices: what it read, what it wrote, and how often that failed.
use Rattle.std.specs.Prelude.{◌≡◌, ◌≢◌, ℕ, ◌+◌, ◌≤◌, Bool, false, true, List, [], ◌∷◌, ◌++◌, length, Option}
use Rattle.std.specs.Io.KnownBytes.{Appends, Consumes, IsAtEnd}
use Rattle.std.specs.List.{All, concat}
use Rattle.ac_automaton.specs.Stream.Devices.Watched.{NoneRead, NoneTaken}
use Rattle.ac_automaton.specs.declared.stream.devices.watched.Watched.{Watched}

-- no piece is empty
abbrev pub AreFilled : List (List ℕ) → Type 0
AreFilled [] = Unit {0}
AreFilled (piece ∷ pieces) = (piece ≢ []) × AreFilled pieces

-- the pieces of an input that was read to its end: the last one is empty, and no other
abbrev pub AreWhole : List (List ℕ) → Type 0
AreWhole pieces = (filled : List (List ℕ)) × AreFilled filled × (pieces ≡ filled ++ [] ∷ [])

-- every piece fits into a buffer with this room
abbrev pub AllFit : ℕ → List (List ℕ) → Type 0
AllFit room pieces = All (λ piece. length piece ≤ room) pieces

-- all pieces but the last
abbrev pub but_last : List (List ℕ) → List (List ℕ)
but_last [] = []
but_last (piece ∷ []) = []
but_last (piece ∷ (next ∷ pieces)) = piece ∷ but_last (next ∷ pieces)

-- whether a piece is empty
abbrev pub is_empty : List ℕ → Bool
is_empty [] = true
is_empty (byte ∷ bytes) = false

-- Reads returned these pieces, and `has_ended` went from one value to another. Each read was of an input that had not
-- ended, and ended it exactly if its piece is empty. So nothing was read after an empty or a failed read.
abbrev pub AreInTurn : Bool → List (List ℕ) → Bool → Type 0
AreInTurn before [] after = after ≡ before
AreInTurn before (piece ∷ pieces) after = (before ≡ false) × AreInTurn (is_empty piece) pieces after

-- what was moved: the pieces that reads returned, how many reads failed, the bytes that writes took, how many writes
-- failed, and how many of those were passed bytes and took none
pub record Moved : Type 0 where
  pub pieces : List (List ℕ)
  pub failed_reads : ℕ
  pub taken : List ℕ
  pub failed_writes : ℕ
  pub stalled_writes : ℕ

-- A reader, before and after: it returned these pieces, this many reads failed, and nothing was written to it. If the
-- device is in memory, what was read is gone from its remaining bytes. None remain if the input was read to its end
-- without a failure.
pub record HasGiven {R : Type 0} (remaining : R → Option (List ℕ)) (before after : Watched R) (gained : List (List ℕ))
    (failed : ℕ) : Type 0 where
  pub pieces : after.pieces.items ≡ before.pieces.items ++ gained
  pub turns : AreInTurn before.ended gained after.ended
  pub failures : after.failures.value ≡ before.failures.value + failed
  pub writes : NoneTaken before after
  pub device : Consumes (remaining before.inner) (remaining after.inner) (concat gained)
  pub at_end : failed ≡ 0 → AreWhole gained → IsAtEnd (remaining after.inner)

-- A writer, before and after: it took these bytes, this many calls failed, and this many writes stalled. Nothing was
-- flushed, and nothing was read from it. The contents of a device in memory grew by these bytes.
pub record HasTaken {W : Type 0} (contents : W → Option (List ℕ)) (before after : Watched W) (bytes : List ℕ)
    (failed stalled : ℕ) : Type 0 where
  pub taken : after.taken.bytes ≡ before.taken.bytes ++ bytes
  pub flushed : after.flushed.bytes ≡ before.flushed.bytes
  pub failures : after.failures.value ≡ before.failures.value + failed
  pub stalls : after.stalls.value ≡ before.stalls.value + stalled
  pub reads : NoneRead before after
  pub device : Appends (contents before.inner) (contents after.inner) bytes

-- what was moved between a reader and a writer
pub record HasMoved {R W : Type 0} (remaining : R → Option (List ℕ)) (contents : W → Option (List ℕ))
    (reader_before reader_after : Watched R) (writer_before writer_after : Watched W) (m : Moved) : Type 0 where
  pub reader : HasGiven remaining reader_before reader_after m.pieces m.failed_reads
  pub writer : HasTaken contents writer_before writer_after m.taken m.failed_writes m.stalled_writes

-- this many reads failed, this many writes, and this many of those took no byte
abbrev pub Failed : Moved → ℕ → ℕ → ℕ → Type 0
Failed m reads writes stalls = (m.failed_reads ≡ reads) × (m.failed_writes ≡ writes) × (m.stalled_writes ≡ stalls)

-- neither the reader nor the writer was touched
abbrev pub NoneTouched : {R W : Type 0} → Watched R → Watched R → Watched W → Watched W → Type 0
NoneTouched reader_before reader_after writer_before writer_after =
    (reader_after ≡ reader_before) × (writer_after ≡ writer_before)

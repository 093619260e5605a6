-- What a contract sees of a watched device, and what a read, a write and a flush do to it.
use Rattle.std.specs.Prelude.{◌≡◌, ℕ, ◌+◌, ◌<◌, ◌≤◌, ◌↔◌, false, true, IsTrue, Option, List, [], ◌∷◌, ◌++◌, length, take, Result, Ok, Err}
use Rattle.std.specs.Io.KnownBytes.{Appends, ReadConsumes, WriteAppends}
use Rattle.ac_automaton.specs.declared.stream.devices.watched.Watched.{Watched}
use Rattle.ac_automaton.specs.declared.error.StreamError.{StreamError}
use Rattle.ac_automaton.specs.declared.error.StreamError.TheVariants.{Write, WriteZero}

-- nothing happened yet
pub record IsFresh {T : Type 0} (watched : Watched T) : Type 0 where
  pub failures : watched.failures.value ≡ 0
  pub stalls : watched.stalls.value ≡ 0
  pub pieces : watched.pieces.items ≡ []
  pub taken : watched.taken.bytes ≡ []
  pub flushed : watched.flushed.bytes ≡ []
  pub ended : watched.ended ≡ false

-- a read returned the first n bytes of the buffer, and the input has ended if there are none
pub record ReadGave {T : Type 0} (old new : Watched T) (buffer : List ℕ) (n : ℕ) : Type 0 where
  pub within : n ≤ length buffer
  pub pieces : new.pieces.items ≡ old.pieces.items ++ take n buffer ∷ []
  pub ended : IsTrue new.ended ↔ (n ≡ 0)
  pub failures : new.failures.value ≡ old.failures.value

-- a read failed: its piece is empty, and the input has ended
pub record ReadFailed {T : Type 0} (old new : Watched T) : Type 0 where
  pub pieces : new.pieces.items ≡ old.pieces.items ++ [] ∷ []
  pub ended : new.ended ≡ true
  pub failures : new.failures.value ≡ old.failures.value + 1

-- no read was made in between
pub record NoneRead {T : Type 0} (old new : Watched T) : Type 0 where
  pub pieces : new.pieces.items ≡ old.pieces.items
  pub ended : new.ended ≡ old.ended

-- no write took a byte in between, none stalled, and nothing was flushed
pub record NoneTaken {T : Type 0} (old new : Watched T) : Type 0 where
  pub taken : new.taken.bytes ≡ old.taken.bytes
  pub flushed : new.flushed.bytes ≡ old.flushed.bytes
  pub stalls : new.stalls.value ≡ old.stalls.value

-- no call failed in between
pub record NoneFailed {T : Type 0} (old new : Watched T) : Type 0 where
  pub failures : new.failures.value ≡ old.failures.value
  pub stalls : new.stalls.value ≡ old.stalls.value

-- one write stalled in between, and no other call failed
pub record HasStalled {T : Type 0} (old new : Watched T) : Type 0 where
  pub failures : new.failures.value ≡ old.failures.value + 1
  pub stalls : new.stalls.value ≡ old.stalls.value + 1

-- everything that was taken was flushed, and no call failed
pub record HasFlushed {T : Type 0} (old new : Watched T) : Type 0 where
  pub flushed : new.flushed.bytes ≡ new.taken.bytes
  pub taken : new.taken.bytes ≡ old.taken.bytes
  pub fine : NoneFailed old new

-- a write took the first n of the bytes, and stalled where there were some and it took none
pub record WriteTook {T : Type 0} (old new : Watched T) (bytes : List ℕ) (n : ℕ) : Type 0 where
  pub within : n ≤ length bytes
  pub taken : new.taken.bytes ≡ old.taken.bytes ++ take n bytes
  pub flushed : new.flushed.bytes ≡ old.flushed.bytes
  pub some_taken : 0 < n → NoneFailed old new
  pub none_given : length bytes ≡ 0 → NoneFailed old new
  pub none_taken : n ≡ 0 → 0 < length bytes → HasStalled old new

-- a call failed that took no byte
pub record TookNone {T : Type 0} (old new : Watched T) : Type 0 where
  pub nothing : NoneTaken old new
  pub failures : new.failures.value ≡ old.failures.value + 1

-- all the bytes were taken, nothing was flushed, and no call failed
pub record TookAll {T : Type 0} (old new : Watched T) (bytes : List ℕ) : Type 0 where
  pub taken : new.taken.bytes ≡ old.taken.bytes ++ bytes
  pub flushed : new.flushed.bytes ≡ old.flushed.bytes
  pub fine : NoneFailed old new

-- The bytes were taken up to the one call that failed, with some bytes left, and nothing was flushed. `contents` is the
-- device's contents, if its model has them.
pub record TookFront {T : Type 0} (contents : T → Option (List ℕ)) (old new : Watched T) (bytes : List ℕ) : Type 0 where
  pub front : List ℕ
  pub rest : List ℕ
  pub split : bytes ≡ front ++ rest
  pub left : 0 < length rest
  pub taken : new.taken.bytes ≡ old.taken.bytes ++ front
  pub flushed : new.flushed.bytes ≡ old.flushed.bytes
  pub failures : new.failures.value ≡ old.failures.value + 1
  pub device : Appends (contents old.inner) (contents new.inner) front

-- the error is that of the failed write: `WriteZero` if it stalled, otherwise `Write`
abbrev pub IsOfWrite : {T : Type 0} → Watched T → Watched T → StreamError → Type 0
IsOfWrite old new (Write error) = new.stalls.value ≡ old.stalls.value
IsOfWrite old new WriteZero = new.stalls.value ≡ old.stalls.value + 1
IsOfWrite old new other = ⊥

-- ---- what each result means

-- a read returned the first bytes of the buffer, or failed
abbrev pub AnswersRead : {T E : Type 0} → Watched T → Watched T → List ℕ → Result ℕ E → Type 0
AnswersRead old new buffer (Ok n) = ReadGave old new buffer n
AnswersRead old new buffer (Err error) = ReadFailed old new

-- the device still has the bytes that the read did not return, if its model has its bytes
abbrev pub DeviceGives : {T E : Type 0} → (T → Option (List ℕ)) → Watched T → Watched T → Result ℕ E → List ℕ → Type 0
DeviceGives remaining old new result buffer = ReadConsumes (remaining old.inner) (remaining new.inner) result buffer

-- a write took the first of the bytes, or failed
abbrev pub AnswersWrite : {T E : Type 0} → Watched T → Watched T → List ℕ → Result ℕ E → Type 0
AnswersWrite old new bytes (Ok n) = WriteTook old new bytes n
AnswersWrite old new bytes (Err error) = TookNone old new

-- the contents of the device grew by what the write took, if its model has them
abbrev pub DeviceTakes : {T E : Type 0} → (T → Option (List ℕ)) → Watched T → Watched T → Result ℕ E → List ℕ → Type 0
DeviceTakes contents old new result bytes = WriteAppends (contents old.inner) (contents new.inner) result bytes

-- everything that was taken was flushed, or the call failed
abbrev pub AnswersFlush : {T E : Type 0} → Watched T → Watched T → Result (Unit {0}) E → Type 0
AnswersFlush old new (Ok done) = HasFlushed old new
AnswersFlush old new (Err error) = TookNone old new

-- All the bytes were taken, and the device's contents grew by them; or only those before the failed write, whose error
-- this is.
abbrev pub WritesWhole : {T : Type 0} → (T → Option (List ℕ)) → Watched T → Watched T → List ℕ
    → Result (Unit {0}) StreamError → Type 0
WritesWhole contents old new bytes (Ok done) =
    TookAll old new bytes × Appends (contents old.inner) (contents new.inner) bytes
WritesWhole contents old new bytes (Err error) = TookFront contents old new bytes × IsOfWrite old new error

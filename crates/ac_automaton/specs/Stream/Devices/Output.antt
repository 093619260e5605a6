-- What happens to bytes that are sent to a writer, some of them held back to be written together.
use Rattle.std.specs.Prelude.{◌≡◌, ℕ, ◌+◌, Option, List, [], ◌++◌, Result, Ok, Err}
use Rattle.std.specs.Io.KnownBytes.{Appends}
use Rattle.ac_automaton.specs.Stream.Devices.Watched.{IsOfWrite, NoneFailed, NoneRead}
use Rattle.ac_automaton.specs.declared.error.StreamError.{StreamError}
use Rattle.ac_automaton.specs.declared.stream.devices.watched.Watched.{Watched}

-- The bytes were sent: in order, those held back before and these were taken or are held back. No call failed, and
-- nothing was flushed or read. If the device has contents in its model, they grew by what was taken.
pub record Sent {W : Type 0} (contents : W → Option (List ℕ)) (old new : Watched W)
    (held_before held_after bytes : List ℕ) : Type 0 where
  pub gained : List ℕ
  pub taken : new.taken.bytes ≡ old.taken.bytes ++ gained
  pub flushed : new.flushed.bytes ≡ old.flushed.bytes
  pub order : gained ++ held_after ≡ held_before ++ bytes
  pub reads : NoneRead old new
  pub fine : NoneFailed old new
  pub device : Appends (contents old.inner) (contents new.inner) gained

-- The send stopped at a call that failed. A front part of the bytes held back and those sent was taken, and the rest is
-- lost.
-- Nothing was flushed or read.
pub record Stopped {W : Type 0} (contents : W → Option (List ℕ)) (old new : Watched W)
    (held_before bytes : List ℕ) : Type 0 where
  pub gained : List ℕ
  pub lost : List ℕ
  pub taken : new.taken.bytes ≡ old.taken.bytes ++ gained
  pub flushed : new.flushed.bytes ≡ old.flushed.bytes
  pub order : gained ++ lost ≡ held_before ++ bytes
  pub reads : NoneRead old new
  pub failures : new.failures.value ≡ old.failures.value + 1
  pub device : Appends (contents old.inner) (contents new.inner) gained

-- The bytes were sent; or the send stopped at a failed write, whose error this is, and nothing is held back.
abbrev pub Sends : {W : Type 0} → (W → Option (List ℕ)) → List ℕ → Watched W → Watched W → List ℕ → List ℕ
    → Result (Unit {0}) StreamError → Type 0
Sends contents bytes old new held_before held_after (Ok done) = Sent contents old new held_before held_after bytes
Sends contents bytes old new held_before held_after (Err error) =
    Stopped contents old new held_before bytes × IsOfWrite old new error × (held_after ≡ [])

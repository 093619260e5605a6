-- How one send follows another.
use Rattle.std.proofs.Common.{◌≡◌, ℕ, ◌+◌, Option, List, [], ◌++◌, Result, Ok, Err, refl, sym, ap, ◌∙◌, subst, append_assoc, add-zero}
use Rattle.std.proofs.lemmas.List.{append-nil}
use Rattle.std.specs.Io.KnownBytes.{Appends}
use Rattle.std.specs.Prelude.{IfErr}
use Rattle.std.proofs.KnownBytes.{Appends-trans}
use Rattle.ac_automaton.specs.declared.stream.devices.watched.Watched.{Watched}
use Rattle.ac_automaton.specs.Stream.Devices.Moved.{HasTaken}
use Rattle.ac_automaton.specs.Stream.Devices.Watched.{IsOfWrite, NoneRead, TookAll, TookFront, WritesWhole}
use Rattle.ac_automaton.specs.Stream.Devices.Output.{Sends, Sent, Stopped}
use Rattle.ac_automaton.specs.Stream.Devices.SendLaws.{NoneRead-then}
use Rattle.ac_automaton.specs.declared.error.StreamError.{StreamError}
use Rattle.ac_automaton.specs.declared.error.StreamError.TheVariants.{Config, Read, Write, WriteZero, Memory, Position}
pub use Rattle.ac_automaton.specs.Stream.Devices.SendLaws.{Sent-none, Sent-then}

-- the writer's history after a send
pub HasTaken-from_sent : {W : Type 0} {contents : W → Option (List ℕ)} {old new : Watched W} {held after bytes : List ℕ}
    (s : Sent contents old new held after bytes) → HasTaken contents old new s.gained 0 0
HasTaken-from_sent s =
    record {
      taken = s.taken;
      flushed = s.flushed;
      failures = s.fine.failures ∙ sym (add-zero _);
      stalls = s.fine.stalls ∙ sym (add-zero _);
      reads = s.reads;
      device = s.device;
    }

-- the writer's history after a send that stopped
pub HasTaken-from_stopped : {W : Type 0} {contents : W → Option (List ℕ)} {old new : Watched W} {held bytes : List ℕ}
    {stalls : ℕ} (s : Stopped contents old new held bytes) → new.stalls.value ≡ old.stalls.value + stalls
    → HasTaken contents old new s.gained 1 stalls
HasTaken-from_stopped {stalls} s stalled =
    record {
      taken = s.taken;
      flushed = s.flushed;
      failures = s.failures;
      stalls = stalled;
      reads = s.reads;
      device = s.device;
    }

-- what stopped with some bytes has stopped with more of them
pub Stopped-more : {W : Type 0} {contents : W → Option (List ℕ)} {old new : Watched W} {held bytes : List ℕ}
    (more : List ℕ) → Stopped contents old new held bytes → Stopped contents old new held (bytes ++ more)
Stopped-more {held} {bytes} more s =
    record {
      gained = s.gained;
      lost = s.lost ++ more;
      taken = s.taken;
      flushed = s.flushed;
      reads = s.reads;
      order = sym (append_assoc s.gained s.lost more) ∙ ap (λ t. t ++ more) s.order ∙ append_assoc held bytes more;
      failures = s.failures;
      device = s.device;
    }

-- a send that stopped, after one that did not
pub Stopped-then : {W : Type 0} {contents : W → Option (List ℕ)} {old mid new : Watched W}
    {held between bytes more : List ℕ} → Sent contents old mid held between bytes
    → Stopped contents mid new between more → Stopped contents old new held (bytes ++ more)
Stopped-then {held} {between} {bytes} {more} a b =
    record {
      gained = a.gained ++ b.gained;
      lost = b.lost;
      taken = b.taken ∙ ap (λ t. t ++ b.gained) a.taken ∙ append_assoc _ a.gained b.gained;
      order = append_assoc a.gained b.gained b.lost ∙ ap (λ t. a.gained ++ t) b.order
          ∙ sym (append_assoc a.gained between more) ∙ ap (λ t. t ++ more) a.order ∙ append_assoc held bytes more;
      flushed = b.flushed ∙ a.flushed;
      reads = NoneRead-then a.reads b.reads;
      failures = b.failures ∙ ap (λ n. n + 1) a.fine.failures;
      device = Appends-trans _ _ _ a.gained b.gained a.device b.device;
    }

-- a write of all bytes, where nothing was held back
pub Sent-from_all : {W : Type 0} {contents : W → Option (List ℕ)} {old new : Watched W} {bytes : List ℕ}
    → TookAll old new bytes → NoneRead old new → Appends (contents old.inner) (contents new.inner) bytes
    → Sent contents old new [] [] bytes
Sent-from_all {bytes} all reads device =
    record {
      gained = bytes;
      taken = all.taken;
      flushed = all.flushed;
      reads = reads;
      order = append-nil bytes;
      fine = all.fine;
      device = device;
    }

-- a write of what was held back
pub Sent-held : {W : Type 0} {contents : W → Option (List ℕ)} {old new : Watched W} {held : List ℕ}
    → Sent contents old new [] [] held → Sent contents old new held [] []
Sent-held {held} s =
    record {
      gained = s.gained;
      taken = s.taken;
      flushed = s.flushed;
      reads = s.reads;
      order = s.order ∙ sym (append-nil held);
      fine = s.fine;
      device = s.device;
    }

-- a write of what was held back that stopped
pub Stopped-held : {W : Type 0} {contents : W → Option (List ℕ)} {old new : Watched W} {held : List ℕ}
    → Stopped contents old new [] held → Stopped contents old new held []
Stopped-held {held} s =
    record {
      gained = s.gained;
      lost = s.lost;
      taken = s.taken;
      flushed = s.flushed;
      reads = s.reads;
      order = s.order ∙ sym (append-nil held);
      failures = s.failures;
      device = s.device;
    }

-- a write that stopped, where nothing was held back
pub Stopped-from_front : {W : Type 0} {contents : W → Option (List ℕ)} {old new : Watched W} {bytes : List ℕ}
    → TookFront contents old new bytes → NoneRead old new → Stopped contents old new [] bytes
Stopped-from_front f reads =
    record {
      gained = f.front;
      lost = f.rest;
      taken = f.taken;
      flushed = f.flushed;
      reads = reads;
      order = sym f.split;
      failures = f.failures;
      device = f.device;
    }

-- ---- by the result

-- the error of a write that follows a send is the error of both
pub IsOfWrite-then : {W : Type 0} (old mid new : Watched W) (error : StreamError) → mid.stalls.value ≡ old.stalls.value
    → IsOfWrite mid new error → IsOfWrite old new error
IsOfWrite-then old mid new (Config error) same kind = kind
IsOfWrite-then old mid new (Read error) same kind = kind
IsOfWrite-then old mid new (Write error) same kind = kind ∙ same
IsOfWrite-then old mid new WriteZero same kind = kind ∙ ap (λ n. n + 1) same
IsOfWrite-then old mid new Memory same kind = kind
IsOfWrite-then old mid new Position same kind = kind

-- a send that follows one that did not stop, by its result
pub Sends-then : {W : Type 0} {contents : W → Option (List ℕ)} {old mid : Watched W} (new : Watched W)
    {held between : List ℕ} (after : List ℕ) {bytes : List ℕ} (more : List ℕ) (result : Result (Unit {0}) StreamError)
    → Sent contents old mid held between bytes → Sends contents more mid new between after result
    → Sends contents (bytes ++ more) old new held after result
Sends-then new after more (Ok done) a b = Sent-then a b
Sends-then {old} {mid} new after more (Err error) a b =
    (Stopped-then a b.0, IsOfWrite-then old mid new error a.fine.stalls b.1, b.2)

-- a sending, and then what was held back
pub Sends-and_held : {W : Type 0} {contents : W → Option (List ℕ)} {old mid : Watched W} (new : Watched W)
    {held between : List ℕ} (after : List ℕ) {bytes : List ℕ} (result : Result (Unit {0}) StreamError)
    → Sent contents old mid held between bytes → Sends contents [] mid new between after result
    → Sends contents bytes old new held after result
Sends-and_held {contents} {old} new {held} after {bytes} result a b =
    subst (λ t. Sends contents t old new held after result) (append-nil bytes) (Sends-then new after [] result a b)

-- what stopped with some bytes has stopped with more of them
pub Sends-more : {W : Type 0} {contents : W → Option (List ℕ)} {old new : Watched W} {held after bytes : List ℕ}
    (more : List ℕ) (error : StreamError) → Sends contents bytes old new held after (Err error)
    → Sends contents (bytes ++ more) old new held after (Err error)
Sends-more more error s = (Stopped-more more s.0, s.1, s.2)

-- a write of what was held back
pub Sends-held : {W : Type 0} (contents : W → Option (List ℕ)) (old new : Watched W) (held : List ℕ)
    (result : Result (Unit {0}) StreamError) → Sends contents held old new [] [] result
    → Sends contents [] old new held [] result
Sends-held contents old new held (Ok done) s = Sent-held s
Sends-held contents old new held (Err error) s = (Stopped-held s.0, s.1, refl)

-- a write of all bytes, where nothing was held back
pub Sends-whole : {W : Type 0} (contents : W → Option (List ℕ)) {old new : Watched W} (bytes : List ℕ)
    (result : Result (Unit {0}) StreamError) → WritesWhole contents old new bytes result → NoneRead old new
    → Sends contents bytes old new [] [] result
Sends-whole contents bytes (Ok done) took reads = Sent-from_all took.0 reads took.1
Sends-whole contents bytes (Err error) took reads = (Stopped-from_front took.0 reads, took.1, refl)

pub kind-of : {W : Type 0} (contents : W → Option (List ℕ)) (old new : Watched W) (held after bytes : List ℕ)
    (result : Result (Unit {0}) StreamError) → Sends contents bytes old new held after result
    → IfErr result (IsOfWrite old new)
kind-of contents old new held after bytes (Ok done) s = tt
kind-of contents old new held after bytes (Err error) s = s.1

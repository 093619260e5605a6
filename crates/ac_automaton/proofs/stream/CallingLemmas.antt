-- What the closure's sink does at a match: it writes the bytes before it, and calls the closure.
use Rattle.std.proofs.Common.{ℕ, inr, List, Option, Result, Ok, Err, sym, ◌∙◌, add-zero}
use Rattle.std.specs.Io.KnownBytes.{Appends}
use Rattle.ac_input.specs.Occurrence.{Occurrence}
use Rattle.ac_automaton.specs.Stream.Devices.Moved.{HasTaken}
use Rattle.ac_automaton.specs.Stream.Devices.Watched.{NoneRead, TookAll}
use Rattle.ac_automaton.specs.InMemory.Replace.{Replacer}
use Rattle.ac_automaton.specs.Stream.Pump.{AnswersPass}
use Rattle.ac_automaton.specs.Stream.ReplaceWith.{CallsAt, calling}
use Rattle.ac_automaton.specs.declared.error.StreamError.{StreamError}
use Rattle.ac_automaton.specs.declared.stream.replace_with.Calling.{Calling}
use Rattle.ac_automaton.specs.declared.stream.devices.watched.Watched.{Watched}

-- the writer took all the bytes
pub HasTaken-from_all : {W : Type 0} {contents : W → Option (List ℕ)} {old new : Watched W} {bytes : List ℕ}
    → TookAll old new bytes → NoneRead old new → Appends (contents old.inner) (contents new.inner) bytes
    → HasTaken contents old new bytes 0 0
HasTaken-from_all all reads device =
    record {
      taken = all.taken;
      flushed = all.flushed;
      failures = all.fine.failures ∙ sym (add-zero _);
      stalls = all.fine.stalls ∙ sym (add-zero _);
      reads = reads;
      device = device;
    }

-- a call after a write, by its result
pub AnswersPass-from_call : {F W : Type 0} {contents : W → Option (List ℕ)}
    {g : Replacer F (Watched W) (Result (Unit {0}) StreamError)} {z last : Calling F × Watched W}
    {before matched : List ℕ} {o : Occurrence} (result : Result (Unit {0}) StreamError)
    → CallsAt contents g z before o matched result last
    → AnswersPass (calling contents g) z before o matched last result
AnswersPass-from_call (Ok done) calls = calls
AnswersPass-from_call (Err error) calls = inr calls

-- What the loop of `write_whole` keeps, and that one more write keeps it.
use Rattle.std.proofs.Common.{◌≡◌, ℕ, ◌+◌, ◌-◌, ◌<◌, ◌≤◌, List, ◌++◌, length, take, drop, Option, arith, ap, ◌∙◌, subst, append_assoc, length-drop, take-append-drop, sym}
use Rattle.std.proofs.lemmas.List.{take_rest, take-take, drop-take}
use Rattle.std.specs.Io.KnownBytes.{Appends}
use Rattle.std.proofs.KnownBytes.{Appends-trans}
use Rattle.ac_automaton.specs.declared.stream.devices.watched.Watched.{Watched}
use Rattle.ac_automaton.specs.Stream.Devices.Watched.{NoneFailed, NoneRead, WriteTook}

-- the first `written` bytes were taken, and no call failed
pub record HasWritten {T : Type 0} (contents : T → Option (List ℕ)) (old new : Watched T) (bytes : List ℕ)
    (written : ℕ) : Type 0 where
  pub within : written ≤ length bytes
  pub taken : new.taken.bytes ≡ old.taken.bytes ++ take written bytes
  pub flushed : new.flushed.bytes ≡ old.flushed.bytes
  pub fine : NoneFailed old new
  pub reads : NoneRead old new
  pub device : Appends (contents old.inner) (contents new.inner) (take written bytes)

-- the slice that is left to write
abbrev left : ℕ → List ℕ → List ℕ
left written bytes = take (length bytes - written) (drop written bytes)

-- the bytes written so far and the next bytes of the rest are the longer front
take_further : (written n : ℕ) (bytes : List ℕ)
    → take (written + n) bytes ≡ take written bytes ++ take n (left written bytes)
take_further written n bytes =
    let whole = take-append-drop written (take (written + n) bytes) in
    let front = take-take written (written + n) bytes (omega arith) in
    let back = drop-take written n bytes in
    let rest = take_rest bytes written in
    sym whole ∙ ap (λ l. l ++ drop written (take (written + n) bytes)) front
    ∙ ap (λ l. take written bytes ++ l) (back ∙ ap (take n) (sym rest))

-- this many more bytes of the rest were taken
pub written_more : {T : Type 0} {contents : T → Option (List ℕ)} {old mid new : Watched T} {bytes : List ℕ}
    {written n : ℕ}
    → HasWritten contents old mid bytes written
    → WriteTook mid new (left written bytes) n
    → 0 < n
    → NoneRead mid new
    → Appends (contents mid.inner) (contents new.inner) (take n (left written bytes))
    → HasWritten contents old new bytes (written + n)
written_more {contents} {old} {new} {bytes} {written} {n} before took some reads appended =
    let further = take_further written n bytes in
    record {
      within =
          omega (arith, before.within, took.within, ap length (take_rest bytes written), length-drop written bytes);
      taken = took.taken ∙ ap (λ l. l ++ take n (left written bytes)) before.taken
          ∙ append_assoc old.taken.bytes (take written bytes) (take n (left written bytes))
          ∙ ap (λ l. old.taken.bytes ++ l) (sym further);
      flushed = took.flushed ∙ before.flushed;
      fine = let none = took.some_taken some in
          record { failures = none.failures ∙ before.fine.failures; stalls = none.stalls ∙ before.fine.stalls };
      reads = record { pieces = reads.pieces ∙ before.reads.pieces; ended = reads.ended ∙ before.reads.ended };
      device = subst (Appends (contents old.inner) (contents new.inner)) (sym further)
          (Appends-trans _ _ _ (take written bytes) (take n (left written bytes)) before.device appended);
    }

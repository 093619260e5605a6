-- The results of a call that writes a text while it reads: how much of the text was written, given what was read.
use Rattle.std.specs.Prelude.{◌≡◌, ℕ, List, [], Option, Result, Ok, Err}
use Rattle.std.specs.List.{concat}
use Rattle.ac_input.specs.Laws.BeginningLaws.{IsBeginning}
use Rattle.ac_automaton.specs.Stream.Devices.Moved.{AllFit, AreWhole, Failed, HasMoved, Moved, but_last}
use Rattle.ac_automaton.specs.Stream.{CanBeCounted}
use Rattle.ac_automaton.specs.declared.error.StreamError.{StreamError}
use Rattle.ac_automaton.specs.declared.error.StreamError.TheVariants.{Config, Read, Write, WriteZero, Memory, Position}
use Rattle.ac_automaton.specs.declared.stream.devices.watched.Watched.{Watched}

-- nothing was read, and nothing written
pub record MovedNothing (m : Moved) : Type 0 where
  pub pieces : m.pieces ≡ []
  pub taken : m.taken ≡ []
  pub failed : Failed m 0 0 0

-- `output` is the text that is made of an input; `front` is what can be written of it when no more than this was read.
module _ (output : List ℕ → List ℕ) (front : List ℕ → List ℕ → Type 0) where
  -- The input was read to its end, and all of its text was written.
  pub record WroteWhole (m : Moved) : Type 0 where
    pub whole : AreWhole m.pieces
    pub written : m.taken ≡ output (concat m.pieces)
    pub failed : Failed m 0 0 0

  -- A read failed: everything was written that can be written of what was read.
  pub record WroteToFailedRead (m : Moved) : Type 0 where
    pub written : front (concat m.pieces) m.taken
    pub failed : Failed m 1 0 0

  -- A write failed, or was passed bytes and took none: a front part of the text of what was read was written.
  pub record WroteToFailedWrite (m : Moved) (stalls : ℕ) : Type 0 where
    pub at_least : ((early : List ℕ) × front (concat (but_last m.pieces)) early × IsBeginning early m.taken)
    pub at_most : IsBeginning m.taken (output (concat m.pieces))
    pub failed : Failed m 0 1 stalls

  -- The input is longer than places can be counted; a front part of its text was written.
  pub record WroteOutOfPlaces (m : Moved) : Type 0 where
    pub long : ¬ CanBeCounted (concat m.pieces)
    pub written : IsBeginning m.taken (output (concat m.pieces))
    pub failed : Failed m 0 0 0

  -- what each result means for what was moved
  abbrev pub AnswersWriting : Moved → Result (Unit {0}) StreamError → Type 0
  AnswersWriting m (Ok done) = WroteWhole m
  AnswersWriting m (Err (Config error)) = MovedNothing m
  AnswersWriting m (Err (Read error)) = WroteToFailedRead m
  AnswersWriting m (Err (Write error)) = WroteToFailedWrite m 0
  AnswersWriting m (Err WriteZero) = WroteToFailedWrite m 1
  AnswersWriting m (Err Memory) = MovedNothing m
  AnswersWriting m (Err Position) = WroteOutOfPlaces m

-- What a call that writes a text while it reads read and wrote, and its result; no piece was longer than the room.
-- `output` is the text that is made of an input, and `front` what can be written of it once this much was read.
abbrev pub WritesStream : {R W : Type 0} → (R → Option (List ℕ)) → (W → Option (List ℕ)) → ℕ → (List ℕ → List ℕ)
    → (List ℕ → List ℕ → Type 0) → Watched R → Watched R → Watched W → Watched W → Result (Unit {0}) StreamError
    → Type 0
WritesStream remaining contents room output front reader_before reader_after writer_before writer_after result =
    (m : Moved) × HasMoved remaining contents reader_before reader_after writer_before writer_after m
    × AllFit room m.pieces × AnswersWriting output front m result

-- What a writer does that puts a label before each line.
use Rattle.std.specs.Prelude.{◌≡◌, ℕ, ◌<◌, ◌==◌, Bool, true, false, List, [], ◌∷◌, ◌++◌, ◌⊎◌, length, Option, Result, Ok, Err, OnOk}
use Rattle.std.specs.Borrow.{MutBor}
use Rattle.std.specs.declared.io.Error.{Error}
use Rattle.ac_automaton.specs.Stream.Devices.Output.{Sends}
use Rattle.ac_automaton.specs.declared.error.StreamError.{StreamError}
use Rattle.ac_automaton.specs.declared.error.StreamError.TheVariants as stream
use Rattle.ac_automaton.specs.declared.stream.devices.watched.Watched.{Watched}
use Rattle.acsub.specs.declared.labelled.Labelled.{Labelled}

-- ---- lines with labels

-- what stands before each line: the path and a TAB
abbrev pub label_of : List ℕ → List ℕ
label_of path = path ++ 9 ∷ []

-- a text with a label before each line; the first byte begins a line, or goes on with one
abbrev pub labelled : List ℕ → Bool → List ℕ → List ℕ
labelled label begins [] = []
labelled label true (byte ∷ text) = label ++ byte ∷ labelled label (byte == 10) text
labelled label false (byte ∷ text) = byte ∷ labelled label (byte == 10) text

-- whether the byte after a text begins a line: the text ends with LF, or is empty and the byte begins one anyway
abbrev pub begins_after : Bool → List ℕ → Bool
begins_after begins [] = begins
begins_after begins (byte ∷ text) = begins_after (byte == 10) text

-- no byte but the first begins a line
abbrev pub IsOneLine : List ℕ → Type 0
IsOneLine line = (label : List ℕ) → labelled label false line ≡ line

-- The text has this line first, and more after it. It is known whether the line has its LF.
pub record HasLine (text line more : List ℕ) (ended : Bool) : Type 0 where
  pub whole : text ≡ line ++ more
  pub filled : 0 < length line
  pub one : IsOneLine line
  pub after : (begins : Bool) → begins_after begins line ≡ ended

-- ---- the writer

-- It puts this path before each line that it writes on this writer. A line begins, and nothing is held back.
pub record IsLabelling {W : Type 0} (path : List ℕ) (lent : MutBor (Watched W)) (lines : Labelled W) : Type 0 where
  pub label : lines.label.now ≡ path
  pub writer : lines.writer.now ≡ lent.now
  pub reference : lines.writer.ghost_name ≡ lent.ghost_name
  pub begins : lines.begins ≡ true
  pub held : lines.output ≡ []

module _ {W : Type 0} (contents : W → Option (List ℕ)) (bytes : List ℕ) (old new : Labelled W) where
  -- The bytes were written with the label before each line, by which the next write goes on; or the writing stopped at
  -- a write of the writer that failed.
  pub record SendsLines (result : Result (Unit {0}) StreamError) : Type 0 where
    pub sent : Sends contents (labelled (label_of old.label.now) old.begins bytes) old.writer.now new.writer.now
        old.output new.output result
    pub held : new.output ≡ []
    pub label : new.label.now ≡ old.label.now
    pub reference : new.writer.ghost_name ≡ old.writer.ghost_name
    pub begins : OnOk result (new.begins ≡ begins_after old.begins bytes)

  -- What a write means: all bytes were taken, or none, where a write of the writer took none; or such a write failed,
  -- with this error.
  abbrev pub WritesLines : Result ℕ Error → Type 0
  WritesLines (Ok n) =
      ((n ≡ length bytes) × SendsLines (Ok tt)) ⊎ ((n ≡ 0) × SendsLines (Err stream.WriteZero))
  WritesLines (Err error) = SendsLines (Err (stream.Write error))

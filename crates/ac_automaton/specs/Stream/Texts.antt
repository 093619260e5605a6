-- Sinks that write a text through an output: what they make of each item, and of the text between two.
use Rattle.std.specs.Prelude.{◌≡◌, ℕ, List, [], ◌∷◌, ◌++◌, get_or, Option}
use Rattle.ac_input.specs.Occurrence.{Occurrence}
use Rattle.ac_automaton.specs.Stream.Devices.Output.{Sent, Stopped}
use Rattle.ac_automaton.specs.Stream.Devices.Watched.{IsOfWrite}
use Rattle.ac_automaton.specs.Stream.{Sequence}
use Rattle.ac_automaton.specs.Stream.Pump.{Handling, bytes_between}
use Rattle.ac_automaton.specs.declared.error.StreamError.{StreamError}
use Rattle.ac_automaton.specs.declared.stream.devices.watched.Watched.{Watched}

-- what is made of bytes of the text, and of the bytes before an item and the item
pub record Texts : Type 0 where
  pub plain : List ℕ → List ℕ
  pub made : List ℕ → Occurrence → List ℕ

-- bytes stay as they are, and each match is replaced by its pattern's replacement
abbrev pub replacing : List (List ℕ) → Texts
replacing replacements =
    record { plain = λ bytes. bytes; made = λ before o. before ++ get_or replacements o.pattern [] }

-- the text that is made of a text between two places, with the items that lie there
abbrev pub text_between : Texts → Sequence → List ℕ → ℕ → List Occurrence → ℕ → List ℕ
text_between made q x at [] to = made.plain (bytes_between q x at to)
text_between made q x at (o ∷ os) to =
    made.made (bytes_between q x at o.start) o ++ text_between made q x o.end os to

module _ {K W : Type 0} (contents : W → Option (List ℕ)) (output : K → List ℕ) (texts : K → Texts) where
  -- these bytes were sent, and the sink makes the same of what comes
  pub record SendsOn (z : K × Watched W) (bytes : List ℕ) (last : K × Watched W) : Type 0 where
    pub sent : Sent contents z.1 last.1 (output z.0) (output last.0) bytes
    pub same : texts last.0 ≡ texts z.0

  -- the send of these bytes stopped at a failed write, whose error this is
  pub record StopsSend (z : K × Watched W) (bytes : List ℕ) (error : StreamError) (last : K × Watched W) : Type 0 where
    pub stopped : Stopped contents z.1 last.1 (output z.0) bytes
    pub of_write : IsOfWrite z.1 last.1 error

  -- The sink sends what it makes of the text and of each item. It is ready as `accepts` says, and settled if nothing is
  -- held back.
  abbrev pub sending : (ℕ → K → Type 0) → Handling (K × Watched W)
  sending accepts =
      record {
        takes = λ z bytes last. SendsOn z ((texts z.0).plain bytes) last;
        passes = λ z before o matched last. SendsOn z ((texts z.0).made before o) last;
        stops = λ z bytes error last. StopsSend z ((texts z.0).plain bytes) error last;
        refuses = λ z before o matched error last. StopsSend z ((texts z.0).made before o) error last;
        ready = λ patterns z. accepts patterns z.0;
        settled = λ z. output z.0 ≡ [];
      }

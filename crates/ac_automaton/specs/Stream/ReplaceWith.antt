-- Replacement over streams by a closure: what it does with the writer, and what each result means.
use Rattle.std.specs.Prelude.{◌≡◌, ◌⊎◌, ℕ, List, Option, Result, Ok, Err}
use Rattle.ac_input.specs.declared.search.Anchored.{Anchored}
use Rattle.ac_input.specs.declared.steps.Steps.{Steps}
use Rattle.ac_input.specs.Occurrence.{Occurrence}
use Rattle.ac_automaton.specs.Automaton.{Built}
use Rattle.ac_automaton.specs.Stream.Devices.Moved.{HasTaken}
use Rattle.ac_automaton.specs.Stream.Devices.Watched.{NoneRead, WritesWhole}
use Rattle.ac_automaton.specs.InMemory.Replace.{IsForMatches, Replacer, RepliesAt}
use Rattle.ac_automaton.specs.Stream.Pump.{Handling, PumpsMatches}
use Rattle.ac_automaton.specs.declared.error.StreamError.{StreamError}
use Rattle.ac_automaton.specs.declared.stream.StreamKinds.TheVariants.{OnlyStandard}
use Rattle.ac_automaton.specs.declared.stream.replace_with.Calling.{Calling}
use Rattle.ac_automaton.specs.declared.stream.devices.watched.Watched.{Watched}

module _ {F W : Type 0} (contents : W → Option (List ℕ))
    (g : Replacer F (Watched W) (Result (Unit {0}) StreamError)) where
  -- a write of the bytes stopped, and the closure was not called
  abbrev pub StopsWriting : Calling F × Watched W → List ℕ → StreamError → Calling F × Watched W → Type 0
  StopsWriting z bytes error last =
      (last.0 ≡ z.0) × NoneRead z.1 last.1 × WritesWhole contents z.1 last.1 bytes (Err error)

  -- at a match the writer takes the bytes before it, and then the closure is called
  abbrev pub CallsAt : Calling F × Watched W → List ℕ → Occurrence → List ℕ → Result (Unit {0}) StreamError
      → Calling F × Watched W → Type 0
  CallsAt z before o matched result last =
      (mid : Watched W) × HasTaken contents z.1 mid before 0 0
      × RepliesAt g z.0.f o matched mid result last.0.f last.1

  -- The writer takes the bytes of the text as they are, and the closure is called at each match.
  abbrev pub calling : Handling (Calling F × Watched W)
  calling =
      record {
        takes = λ z bytes last. (last.0 ≡ z.0) × HasTaken contents z.1 last.1 bytes 0 0;
        passes = λ z before o matched last. CallsAt z before o matched (Ok tt) last;
        stops = StopsWriting;
        refuses = λ z before o matched error last. StopsWriting z before error last
            ⊎ CallsAt z before o matched (Err error) last;
        ready = λ patterns z. IsForMatches g patterns z.0.f;
        settled = λ z. Unit {0};
      }

  -- The result of a replacement: the stream can't be searched, and nothing happened; or the chain came as far as the
  -- result says.
  abbrev pub ReplacesStreamWith : {R : Type 0} → (R → Option (List ℕ)) → Built → (Anchored → Type 0) → F
      → Watched R → Watched R → Watched W → Watched W → Result (Unit {0}) StreamError → Type 0
  ReplacesStreamWith remaining b supports f reader_before reader_after writer_before writer_after result =
      (last : F) × (before after : Steps)
      × PumpsMatches calling remaining OnlyStandard b supports reader_before reader_after (record { f = f }, writer_before)
      (record { f = last }, writer_after) before after result

-- What a run that writes while it reads has read, written and returned.
pub mod StreamList
use Rattle.std.specs.Prelude.{◌≡◌, ◌≢◌, ℕ, List, Option, Result, Ok, Err, IfErr}
use Rattle.ac_automaton.specs.Stream.Answer.{WritesStream}
use Rattle.ac_automaton.specs.declared.error.MatchErrorKind.{MatchErrorKind}
use Rattle.ac_automaton.specs.declared.error.StreamError.{StreamError}
use Rattle.ac_automaton.specs.declared.error.StreamError.TheVariants as stream
use Rattle.ac_automaton.specs.declared.stream.devices.watched.Watched.{Watched}
use Rattle.acsub.specs.Plan.{Plan}
use Rattle.acsub.specs.Run.Transformed.{IsOutputFront, output_of, room_in}
use Rattle.acsub.specs.declared.error.RunError.{RunError}
use Rattle.acsub.specs.declared.error.RunError.TheVariants as errors

-- A run returns the result of a stream's search unchanged. No run returns a refusal of the search.
abbrev pub IsReturnedAs : Result (Unit {0}) StreamError → Result (Unit {0}) RunError → Type 0
IsReturnedAs (Ok done) result = result ≡ Ok done
IsReturnedAs (Err (stream.Config error)) result = ⊥
IsReturnedAs (Err (stream.Read error)) result = result ≡ Err (errors.Read error)
IsReturnedAs (Err (stream.Write error)) result = result ≡ Err (errors.Write error)
IsReturnedAs (Err stream.WriteZero) result = result ≡ Err errors.WriteZero
IsReturnedAs (Err stream.Memory) result = result ≡ Err errors.Memory
IsReturnedAs (Err stream.Position) result = result ≡ Err errors.Position

-- what a search of a stream that writes the text of a plan read and wrote, and its result
abbrev pub WritesPlan : {R W : Type 0} → (R → Option (List ℕ)) → (W → Option (List ℕ)) → Watched R × Watched W
    → Watched R × Watched W → Plan → Result (Unit {0}) StreamError → Type 0
WritesPlan remaining contents old new plan result =
    WritesStream remaining contents (room_in plan.settings.mode plan.rules) (output_of plan.settings plan.rules)
    (IsOutputFront plan.settings plan.rules) old.0 new.0 old.1 new.1 result

-- the error is no refusal of the search
abbrev pub IsNoRefusal : StreamError → Type 0
IsNoRefusal error = (refusal : MatchErrorKind) → error ≢ stream.Config refusal

-- P holds if the search of a stream is out of memory
abbrev pub IfStreamMemory : Result (Unit {0}) StreamError → Type 0 → Type 0
IfStreamMemory result P = IfErr result (λ error. error ≡ stream.Memory → P)

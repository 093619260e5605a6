-- What the status of the whole program means.
use Rattle.std.specs.Prelude.{◌≡◌, ℕ, List, Option, Result, Ok, Err, String, map, string_bytes}
use Rattle.std.specs.IoError.{error_kind}
use Rattle.std.specs.Vec.Iter.{into_iter_items}
use Rattle.std.specs.declared.io.Error.{Error}
use Rattle.std.specs.declared.vec.IntoIter.{IntoIter}
use Rattle.ac_automaton.specs.declared.stream.devices.watched.Watched.{Watched}
use Rattle.acsub.specs.Args.Words.{Reads}
use Rattle.acsub.specs.FilesOutcome.{EndsFiles, HasFiles}
use Rattle.acsub.specs.Outcome.{AnswersUnasked, EndsOne, HasOneInput}
use Rattle.acsub.specs.Tool.{IsFaultOf, exit_of, status_of}
use Rattle.acsub.specs.declared.args.Words.{Words}
use Rattle.acsub.specs.declared.args.WordsFault.{WordsFault}
use Rattle.acsub.specs.declared.tool.Fault.{Fault}
use Rattle.acsub.specs.declared.tool.Fault.TheVariants as faults

module _ {F R W E : Type 0} (T : Type 0) (held contents_of : F → Option (List ℕ)) (remaining : R → Option (List ℕ))
    (contents : W → Option (List ℕ)) (old new : Watched R × Watched W × E) where
  -- What the status means, by what was asked for. Of a report on the rules it says nothing, nor of FILEs beside rules on
  -- standard input.
  pub record EndsAsked (asked : Words) (status : ℕ) : Type 0 where
    pub one : HasOneInput asked → EndsOne held remaining contents (old.0, old.1) (new.0, new.1) asked status
    pub files : HasFiles asked → EndsFiles T held contents_of remaining contents asked old (new.0, new.1) status

  -- what the status means, given what the words were read as
  abbrev pub EndsRead : Result Words WordsFault → ℕ → Type 0
  EndsRead (Ok asked) status = EndsAsked asked status
  EndsRead (Err fault) status =
      (outcome : Result (Unit {0}) Fault) × (status ≡ exit_of outcome) × (new.0 ≡ old.0)
      × AnswersUnasked contents old.1 new.1 fault outcome

  -- what the status means for the words, the rules, what was read and written, and the flush
  abbrev pub EndsTool : {Z : Type 0} → List (String Z) → ℕ → Type 0
  EndsTool words status =
      (asked : Result Words WordsFault) × Reads (map string_bytes words) asked × EndsRead asked status

  -- The status for the words that the system gives. If it fails to give them, that is reported, and nothing is read or
  -- written.
  abbrev pub EndsProgram : {Z A : Type 0} → Result (IntoIter (String Z) A) Error → ℕ → Type 0
  EndsProgram (Ok words) status = EndsTool (into_iter_items words) status
  EndsProgram (Err error) status =
      (fault : Fault) × (status ≡ status_of fault) × IsFaultOf (error_kind error) faults.Words fault
      × (new.0 ≡ old.0) × (new.1 ≡ old.1)

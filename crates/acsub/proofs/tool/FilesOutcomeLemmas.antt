-- What the outcome of the program over FILEs says of the rules and of the visits.
use Rattle.std.proofs.Common.{◌≡◌, inl, ℕ, List, Option, Result, subst}
use Rattle.ac_automaton.specs.declared.stream.devices.watched.Watched.{Watched}
use Rattle.acsub.specs.FilesOutcome.{AnswersFiles, RunsByText}
use Rattle.acsub.specs.Outcome.{Finishes, IsRuleText}
use Rattle.acsub.specs.declared.args.Words.{Words}
use Rattle.acsub.specs.declared.files.Report.{Report}
use Rattle.acsub.specs.declared.tool.Fault.{Fault}

module _ {F R W E : Type 0} (T : Type 0) (held contents_of : F → Option (List ℕ)) (remaining : R → Option (List ℕ))
    (contents : W → Option (List ℕ)) (asked : Words) (old : Watched R × Watched W × E × Report)
    (reader : Watched R) (same : reader ≡ old.0) where
  -- the rules were read, and what followed is the outcome
  pub files-ran : (new : Watched R × Watched W × E × Report) (between : Watched W) (file : List ℕ)
      (answer outcome : Result (Unit {0}) Fault) → IsRuleText held asked asked.source file
      → RunsByText T held contents_of remaining contents asked (reader, old.1, old.2, old.3)
      (new.0, between, new.2, new.3) file answer
      → Finishes contents answer between new.1 outcome
      → AnswersFiles T held contents_of remaining contents asked old new outcome
  files-ran new between file answer outcome is ran finishes =
      inl (
        file,
        is,
        between,
        answer,
        subst (λ r. RunsByText T held contents_of remaining contents asked (r, old.1, old.2, old.3)
            (new.0, between, new.2, new.3) file answer) same ran,
        finishes,
      )

-- What the program over FILEs did, by its outcome.
use Rattle.std.specs.Prelude.{◌≡◌, ◌≢◌, ◌⊎◌, ℕ, false, List, [], Option, Result, Ok, Err}
use Rattle.ac_input.specs.Rules.{Rule}
use Rattle.ac_automaton.specs.declared.stream.devices.watched.Watched.{Watched}
use Rattle.acsub.specs.Folds.{IsBlank, RunsFiles}
use Rattle.acsub.specs.Given.{form_wanted}
use Rattle.acsub.specs.Outcome.{Finishes, IsRuleText, IsUnreadRules, concluded}
use Rattle.acsub.specs.Rules.File.{ReadsRules, grammar_of}
use Rattle.acsub.specs.Run.{not_read}
use Rattle.acsub.specs.Tool.{status_of}
use Rattle.acsub.specs.declared.args.Source.TheVariants as sources
use Rattle.acsub.specs.declared.args.Words.{Words}
use Rattle.acsub.specs.declared.files.Report.{Report}
use Rattle.acsub.specs.declared.rules.RuleError.{RuleError}
use Rattle.acsub.specs.declared.tool.Fault.{Fault}
use Rattle.acsub.specs.declared.tool.Fault.TheVariants as faults

-- FILEs are run over, by rules that aren't on standard input
pub record HasFiles (asked : Words) : Type 0 where
  pub files : asked.files.items ≢ []
  pub check : asked.check ≡ false
  pub source : asked.source ≢ sources.Input

-- the status after the visits of all FILEs
abbrev pub status_after : Words → Report → Result (Unit {0}) Fault → ℕ
status_after asked report (Ok done) = concluded asked report.tally.found report.status
status_after asked report (Err fault) = status_of fault

module _ {F R W E : Type 0} (T : Type 0) (held contents_of : F → Option (List ℕ)) (remaining : R → Option (List ℕ))
    (contents : W → Option (List ℕ)) (asked : Words) where
  module _ (old : Watched R × Watched W × E × Report) where
    -- the rules have these bytes, and all FILEs were visited by them; or these bytes are no rules, and nothing was done
    abbrev pub RunsByText : Watched R × Watched W × E × Report → List ℕ → Result (Unit {0}) Fault → Type 0
    RunsByText new file result =
        ((rules : List Rule) × (grammar_of (form_wanted asked)).holds file rules
        × RunsFiles T held contents_of remaining contents asked rules old new result)
        ⊎ ((e : RuleError) × ReadsRules (form_wanted asked) file (Err e) × (new ≡ old)
        × (result ≡ Err (faults.Run (not_read e))))

    -- the rules were read, all FILEs were visited by them, and the writer was flushed; or the rules could not be read
    abbrev pub AnswersFiles : Watched R × Watched W × E × Report → Result (Unit {0}) Fault → Type 0
    AnswersFiles new outcome =
        ((file : List ℕ) × IsRuleText held asked asked.source file
        × (between : Watched W) × (answer : Result (Unit {0}) Fault)
        × RunsByText (new.0, between, new.2, new.3) file answer × Finishes contents answer between new.1 outcome)
        ⊎ ((fault : Fault) × (outcome ≡ Err fault) × IsUnreadRules fault × (new ≡ old))

  -- what the status means where FILEs are run over, from nothing on
  abbrev pub EndsFiles : Watched R × Watched W × E → Watched R × Watched W → ℕ → Type 0
  EndsFiles old new status =
      (blank : Report) × (report : Report) × (noted : E) × (outcome : Result (Unit {0}) Fault) × IsBlank blank
      × (status ≡ status_after asked report outcome)
      × AnswersFiles (old.0, old.1, old.2, blank) (new.0, new.1, noted, report) outcome

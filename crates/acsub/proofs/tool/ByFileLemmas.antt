-- A run over standard input, by what was asked for.
use Rattle.std.proofs.Common.{◌≡◌, ◌↔◌, ℕ, List, Option, Result, Ok, Err}
use Rattle.std.specs.Prelude.{OnOk}
use Rattle.ac_input.specs.Rules.{Rule}
use Rattle.ac_automaton.specs.declared.stream.devices.watched.Watched.{Watched}
use Rattle.acsub.specs.Early.{as_early}
use Rattle.acsub.specs.Files.{IsJobOf, IsNoJobOf, streams}
use Rattle.acsub.specs.Given.{form_wanted}
use Rattle.acsub.specs.Jobs.{RanJob}
use Rattle.acsub.specs.Outcome.{CountsByFile, CountsByRules, RanByFile, RanByRules}
use Rattle.acsub.specs.Rules.File.{ReadsRules, grammar_of}
use Rattle.acsub.specs.Run.{not_read}
use Rattle.acsub.specs.declared.args.Words.{Words}
use Rattle.acsub.specs.declared.early.EarlyError.{EarlyError}
use Rattle.acsub.specs.declared.early.EarlyError.TheVariants as early
use Rattle.acsub.specs.declared.error.RunError.{RunError}
use Rattle.acsub.specs.declared.error.RunError.TheVariants as errors
use Rattle.acsub.specs.declared.job.Job.{Job}
use Rattle.acsub.specs.Visits.{Tallies}
use Rattle.acsub.specs.declared.tally.Tally.{Tally}
use Rattle.acsub.specs.declared.rules.RuleError.{RuleError}
use Rattle.acsub.specs.declared.rules.RuleError.TheVariants as rule_errors
use Rattle.acsub.proofs.job.JobLemmas.{input-in, input-no_line, job-ran, no-job_ran, unread-in}

module _ {R W : Type 0} (remaining : R → Option (List ℕ)) (contents : W → Option (List ℕ)) (asked : Words) where
  module _ (old new : Watched R × Watched W) (file : List ℕ) (rules : List Rule)
      (grammar : (grammar_of (form_wanted asked)).holds file rules) (result : Result (Unit {0}) EarlyError)
      (ran : RanByRules remaining contents asked old new rules result) where
    -- what the run by the rules did, the run by their bytes did
    pub by-file : RanByFile remaining contents asked old new file result
    by-file =
        input-in remaining contents old new (form_wanted asked) file rules grammar asked.mask asked.word
        (streams asked) asked.settings result ran

    -- it reports no bad line, and there is none
    pub by-file_no_line : (n : ℕ)
        → (result ≡ Err (early.Run (errors.Rule (rule_errors.Line n)))) ↔ (grammar_of (form_wanted asked)).bad file n
    by-file_no_line n =
        input-no_line remaining contents old new (form_wanted asked) file rules grammar asked.mask asked.word
        (streams asked) asked.settings result ran n

  -- if the rules could not be read, neither device was touched
  pub by-file_unread : (old : Watched R × Watched W) (file : List ℕ) (why : RuleError)
      → ReadsRules (form_wanted asked) file (Err why)
      → RanByFile remaining contents asked old old file (Err (early.Run (not_read why)))
  by-file_unread old file why read =
      unread-in remaining contents old (form_wanted asked) file why asked.mask asked.word (streams asked) asked.settings read

  -- what the job that was asked for did, was asked for
  pub asked-ran : (old new : Watched R × Watched W) (rules : List Rule) (job : Job)
      (result : Result (Unit {0}) RunError) → IsJobOf asked rules job → RanJob remaining contents old new job result
      → RanByRules remaining contents asked old new rules (as_early result)
  asked-ran old new rules job result is ran =
      job-ran remaining contents old new asked.mask asked.word (streams asked) asked.settings rules job result is ran

  -- if there is no job, that is the result
  pub asked-none : (old : Watched R × Watched W) (rules : List Rule) (e : EarlyError)
      → IsNoJobOf asked rules e → RanByRules remaining contents asked old old rules (Err e)
  asked-none old rules e why =
      no-job_ran remaining contents old asked.mask asked.word (streams asked) asked.settings rules e why

-- ---- what was counted

module _ {R : Type 0} (asked : Words) (rules : List Rule) (r r' : Watched R) (before after : Tally) where
  -- the job that was asked for counted its matches
  pub rules-counted : (job : Job) (ran : Result (Unit {0}) RunError) → IsJobOf asked rules job
      → Tallies job r r' before after ran → OnOk (as_early ran) (CountsByRules asked rules r r' before after)
  rules-counted job (Ok done) made counts = (job, made, counts)
  rules-counted job (Err e) made counts = tt

  -- so did the run by the bytes of the rules
  pub file-counted : (file : List ℕ) (result : Result (Unit {0}) EarlyError)
      → (grammar_of (form_wanted asked)).holds file rules → before.found ≡ 0
      → OnOk result (CountsByRules asked rules r r' before after) → OnOk result (CountsByFile asked file r r' after)
  file-counted file (Ok done) holds none counts = (rules, holds, before, none, counts)
  file-counted file (Err e) holds none counts = tt

-- What a job does to an input is what was asked for.
use Rattle.std.proofs.Common.{◌≡◌, ◌↔◌, ℕ, Bool, true, false, List, Option, Some, None, Result, Ok, Err, refl, subst, sym}
use Rattle.ac_input.specs.Rules.{Rule}
use Rattle.ac_automaton.specs.declared.stream.devices.watched.Watched.{Watched}
use Rattle.acsub.specs.Early.{as_early}
use Rattle.acsub.specs.Jobs.{IsJobFor, IsJobReady, IsNoJob, RanInput, RanInputIn, RanJob}
use Rattle.acsub.specs.Masked.{AnswersMask, IsMaskOf, MasksInput, mask_demand, mask_of}
use Rattle.acsub.specs.Plan.{plan_of}
use Rattle.acsub.specs.Rules.File.{ReadsRules, grammar_of}
use Rattle.acsub.specs.Run.{IsPrepared, RanRules, not_read}
use Rattle.acsub.specs.WordRun.{AnswersWordRun, AreJobWords, WritesWords, word_demand}
use Rattle.acsub.specs.declared.args.settings.Settings.{Settings}
use Rattle.acsub.specs.declared.early.EarlyError.{EarlyError}
use Rattle.acsub.specs.declared.early.EarlyError.TheVariants as early
use Rattle.acsub.specs.declared.error.RunError.{RunError}
use Rattle.acsub.specs.declared.error.RunError.TheVariants as errors
use Rattle.acsub.specs.declared.job.Job.{Job}
use Rattle.acsub.specs.declared.job.Job.TheVariants as jobs
use Rattle.acsub.specs.declared.rules.Form.{Form}
use Rattle.acsub.specs.declared.rules.RuleError.{RuleError}
use Rattle.acsub.specs.declared.rules.RuleError.TheVariants as rule_errors
use Rattle.acsub.proofs.early.EarlyFileLemmas.{early-in, early-unread}
use Rattle.acsub.proofs.early.EarlyLemmas.{early-unready}
use Rattle.acsub.proofs.mask.MaskRunLemmas.{mask-asked, mask-held}
use Rattle.acsub.proofs.rules.GrammarLemmas.{bad_none}
use Rattle.acsub.proofs.run.FileLemmas.{ran_in, unread_ran}
use Rattle.acsub.proofs.run.RunLemmas.{unprepared_ran}
use Rattle.acsub.proofs.word.WordRunLemmas.{words-held, words-wanted}

-- a job that was asked for is ready
pub job-ready : (mask : Option ℕ) (word stream : Bool) (settings : Settings) (rules : List Rule) (job : Job)
    → IsJobFor mask word stream settings rules job → IsJobReady job
job-ready None false stream settings rules (jobs.Run plan) is = subst IsPrepared (sym is.0) is.1
job-ready None false stream settings rules (jobs.Mask prepared) is = absurd is
job-ready None false stream settings rules (jobs.Words prepared) is = absurd is
job-ready None true stream settings rules (jobs.Run plan) is = absurd is
job-ready None true stream settings rules (jobs.Mask prepared) is = absurd is
job-ready None true stream settings rules (jobs.Words prepared) is =
    words-held settings rules prepared is (λ s rs. AreJobWords s rs prepared) is
job-ready (Some byte) word stream settings rules (jobs.Run plan) is = absurd is
job-ready (Some byte) word stream settings rules (jobs.Mask prepared) is =
    mask-held settings rules (mask_of byte word) prepared is (λ s rs k. IsMaskOf s rs k prepared) is
job-ready (Some byte) word stream settings rules (jobs.Words prepared) is = absurd is

module _ {R W : Type 0} (remaining : R → Option (List ℕ)) (contents : W → Option (List ℕ))
    (old new : Watched R × Watched W) where
  -- the run of a plan, with the result of a job
  ran-plan : (stream : Bool) (settings : Settings) (rules : List Rule) (result : Result (Unit {0}) RunError)
      → RanRules remaining contents old new (plan_of stream settings rules) result
      → RanInput remaining contents old new None false stream settings rules (as_early result)
  ran-plan stream settings rules (Ok done) ran = ran
  ran-plan stream settings rules (Err e) ran = ran

  -- what the job that was asked for did, was asked for
  pub job-ran : (mask : Option ℕ) (word stream : Bool) (settings : Settings) (rules : List Rule) (job : Job)
      (result : Result (Unit {0}) RunError) → IsJobFor mask word stream settings rules job
      → RanJob remaining contents old new job result
      → RanInput remaining contents old new mask word stream settings rules (as_early result)
  job-ran None false stream settings rules (jobs.Run plan) result is ran =
      ran-plan stream settings rules result (subst (λ p. RanRules remaining contents old new p result) is.0 ran)
  job-ran None false stream settings rules (jobs.Mask prepared) result is ran = absurd is
  job-ran None false stream settings rules (jobs.Words prepared) result is ran = absurd is
  job-ran None true stream settings rules (jobs.Run plan) result is ran = absurd is
  job-ran None true stream settings rules (jobs.Mask prepared) result is ran = absurd is
  job-ran None true stream settings rules (jobs.Words prepared) result is ran =
      words-wanted settings rules prepared is
      (λ s rs. AnswersWordRun remaining contents old new s rs (as_early result)) ran
  job-ran (Some byte) word stream settings rules (jobs.Run plan) result is ran = absurd is
  job-ran (Some byte) word stream settings rules (jobs.Mask prepared) result is ran =
      mask-asked settings rules (mask_of byte word) prepared is
      (λ s rs k. AnswersMask remaining contents old new s rs k (as_early result)) ran
  job-ran (Some byte) word stream settings rules (jobs.Words prepared) result is ran = absurd is

-- if there is no job, that is the result, and neither device is touched
pub no-job_ran : {R W : Type 0} (remaining : R → Option (List ℕ)) (contents : W → Option (List ℕ))
    (old : Watched R × Watched W) (mask : Option ℕ) (word stream : Bool) (settings : Settings) (rules : List Rule)
    (e : EarlyError) → IsNoJob mask word stream settings rules e
    → RanInput remaining contents old old mask word stream settings rules (Err e)
no-job_ran remaining contents old None false stream settings rules (early.Run e) why =
    unprepared_ran remaining contents old (plan_of stream settings rules) e why
no-job_ran remaining contents old None false stream settings rules (early.Refused refusal) why = absurd why
no-job_ran remaining contents old None true stream settings rules e why =
    early-unready old old (word_demand settings rules) (WritesWords remaining contents old old settings rules) e why refl
no-job_ran remaining contents old (Some byte) word stream settings rules e why =
    early-unready old old (mask_demand settings rules byte)
    (MasksInput remaining contents old old settings rules (mask_of byte word)) e why refl

-- ---- by a rule file

module _ {R W : Type 0} (remaining : R → Option (List ℕ)) (contents : W → Option (List ℕ))
    (old new : Watched R × Watched W) (form : Form) (file : List ℕ) (rules : List Rule)
    (grammar : (grammar_of form).holds file rules) where
  -- what was done by the rules was done by the file that holds them
  pub input-in : (mask : Option ℕ) (word stream : Bool) (settings : Settings) (result : Result (Unit {0}) EarlyError)
      → RanInput remaining contents old new mask word stream settings rules result
      → RanInputIn remaining contents old new ((grammar_of form).holds file) mask word stream settings result
  input-in None false stream settings (Ok done) ran =
      ran_in form (plan_of stream settings) file rules grammar remaining contents old new (Ok done) ran
  input-in None false stream settings (Err (early.Run e)) ran =
      ran_in form (plan_of stream settings) file rules grammar remaining contents old new (Err e) ran
  input-in None false stream settings (Err (early.Refused refusal)) ran = absurd ran
  input-in None true stream settings result ran =
      early-in form file old new (word_demand settings) (WritesWords remaining contents old new settings) rules grammar
      result ran
  input-in (Some byte) word stream settings result ran =
      early-in form file old new (λ rs. mask_demand settings rs byte)
      (λ rs. MasksInput remaining contents old new settings rs (mask_of byte word)) rules grammar result ran

  -- it reports no bad line, and the file has none
  pub input-no_line : (mask : Option ℕ) (word stream : Bool) (settings : Settings)
      (result : Result (Unit {0}) EarlyError)
      → RanInput remaining contents old new mask word stream settings rules result → (n : ℕ)
      → (result ≡ Err (early.Run (errors.Rule (rule_errors.Line n)))) ↔ (grammar_of form).bad file n
  input-no_line mask word stream settings result ran n = (
    λ is. absurd (no-line mask word stream settings n
        (subst (RanInput remaining contents old new mask word stream settings rules) is ran)),
    λ bad. absurd (bad_none form file n rules grammar bad),
  )
    where
      no-line : (mask : Option ℕ) (word stream : Bool) (settings : Settings) (n : ℕ)
          → ¬ RanInput remaining contents old new mask word stream settings rules
          (Err (early.Run (errors.Rule (rule_errors.Line n))))
      no-line None false stream settings n ran = ran.3
      no-line None true stream settings n ran = ran
      no-line (Some byte) word stream settings n ran = ran

-- if no rules can be read, that is the result, and neither device is touched
pub unread-in : {R W : Type 0} (remaining : R → Option (List ℕ)) (contents : W → Option (List ℕ))
    (old : Watched R × Watched W) (form : Form) (file : List ℕ) (why : RuleError) (mask : Option ℕ) (word stream : Bool)
    (settings : Settings) → ReadsRules form file (Err why)
    → RanInputIn remaining contents old old ((grammar_of form).holds file) mask word stream settings
    (Err (early.Run (not_read why)))
unread-in remaining contents old form file why None false stream settings read =
    unread_ran form file why read remaining contents old (plan_of stream settings)
unread-in remaining contents old form file why None true stream settings read =
    early-unread form file why read old (λ rs. AnswersWordRun remaining contents old old settings rs)
unread-in remaining contents old form file why (Some byte) word stream settings read =
    early-unread form file why read old (λ rs. AnswersMask remaining contents old old settings rs (mask_of byte word))

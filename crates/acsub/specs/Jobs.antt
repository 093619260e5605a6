-- What a job does to each input, and that it is what was asked for.
use Rattle.std.specs.Prelude.{◌≡◌, ℕ, Bool, true, false, List, Option, Some, None, Result, Ok, Err}
use Rattle.ac_input.specs.Rules.{Rule}
use Rattle.ac_automaton.specs.declared.stream.devices.watched.Watched.{Watched}
use Rattle.aho_corasick.specs.declared.ahocorasick.AhoCorasick.{AhoCorasick}
use Rattle.acsub.specs.Early.{IsUnready, as_early}
use Rattle.acsub.specs.Finder.{IsServing}
use Rattle.acsub.specs.Masked.{AnswersMask, AnswersMaskIn, IsMaskOf, IsMaskReady, LeavesNone, mask_demand, mask_of}
use Rattle.acsub.specs.Plan.{plan_of}
use Rattle.acsub.specs.Run.{IsPrepared, Prepares, RanIn, RanRules}
use Rattle.acsub.specs.Tally.{Counts, plan_matches, plan_words}
use Rattle.acsub.specs.WordRun.{AnswersWordRun, AnswersWordRunIn, AreJobWords, AreWordsReady, for_words, word_demand}
use Rattle.acsub.specs.declared.args.settings.Engine.{Engine}
use Rattle.acsub.specs.declared.args.settings.Engine.TheVariants as engines
use Rattle.acsub.specs.declared.args.settings.Settings.{Settings}
use Rattle.acsub.specs.declared.early.EarlyError.{EarlyError}
use Rattle.acsub.specs.declared.early.EarlyError.TheVariants as early
use Rattle.acsub.specs.declared.error.RunError.{RunError}
use Rattle.acsub.specs.declared.job.Job.{Job}
use Rattle.acsub.specs.declared.job.Job.TheVariants as jobs
use Rattle.acsub.specs.declared.tally.Tally.{Tally}

-- ---- which job is made

-- the job that was asked for, by the mask if there is one, whether whole words alone count, and whether to stream
abbrev pub IsJobFor : Option ℕ → Bool → Bool → Settings → List Rule → Job → Type 0
IsJobFor None false stream settings rules (jobs.Run plan) = Prepares (plan_of stream settings rules) (Ok plan)
IsJobFor None true stream settings rules (jobs.Words prepared) = AreJobWords settings rules prepared
IsJobFor (Some byte) word stream settings rules (jobs.Mask prepared) =
    IsMaskOf settings rules (mask_of byte word) prepared
IsJobFor mask word stream settings rules other = ⊥

-- why there is none
abbrev pub IsNoJob : Option ℕ → Bool → Bool → Settings → List Rule → EarlyError → Type 0
IsNoJob None false stream settings rules (early.Run e) = Prepares (plan_of stream settings rules) (Err e)
IsNoJob None false stream settings rules (early.Refused refusal) = ⊥
IsNoJob None true stream settings rules e = IsUnready (word_demand settings rules) e
IsNoJob (Some byte) word stream settings rules e = IsUnready (mask_demand settings rules byte) e

-- the settings by which a job is made for a report: where the choice of an automaton is left to its builder, that is a
-- noncontiguous NFA
abbrev pub reported_engine : Engine → Engine
reported_engine engines.Auto = engines.Noncontiguous
reported_engine other = other

abbrev pub reported : Settings → Settings
reported settings = record settings { engine = reported_engine settings.engine }

-- what was prepared serves the settings and rules that it holds
abbrev pub IsJobReady : Job → Type 0
IsJobReady (jobs.Run plan) = IsPrepared plan
IsJobReady (jobs.Mask prepared) = IsMaskReady prepared
IsJobReady (jobs.Words prepared) = AreWordsReady prepared

-- an automaton serves the settings and rules of a job; those for whole words are of the standard kind
abbrev pub IsAutomatonOf : Job → AhoCorasick → Type 0
IsAutomatonOf (jobs.Run plan) a = IsServing plan.settings plan.rules a
IsAutomatonOf (jobs.Mask prepared) a = ⊥
IsAutomatonOf (jobs.Words prepared) a = IsServing (for_words prepared.settings) prepared.rules.now a

-- a job has no automaton to lend: packed search finds its matches, or it masks
abbrev pub LendsNone : Job → Type 0
LendsNone (jobs.Run plan) = plan.settings.engine ≡ engines.Packed
LendsNone (jobs.Mask prepared) = Unit {0}
LendsNone (jobs.Words prepared) = ⊥

-- ---- what it does to an input

module _ {R W : Type 0} (remaining : R → Option (List ℕ)) (contents : W → Option (List ℕ))
    (old new : Watched R × Watched W) where
  -- what a job read, wrote and returned
  abbrev pub RanJob : Job → Result (Unit {0}) RunError → Type 0
  RanJob (jobs.Run plan) result = RanRules remaining contents old new plan result
  RanJob (jobs.Mask prepared) result =
      AnswersMask remaining contents old new prepared.settings prepared.rules.now prepared.mask (as_early result)
  RanJob (jobs.Words prepared) result =
      AnswersWordRun remaining contents old new prepared.settings prepared.rules.now (as_early result)

  -- what was read, written and returned for an input, by what was asked for and the rules
  abbrev pub RanInput : Option ℕ → Bool → Bool → Settings → List Rule → Result (Unit {0}) EarlyError → Type 0
  RanInput None false stream settings rules (Ok done) =
      RanRules remaining contents old new (plan_of stream settings rules) (Ok done)
  RanInput None false stream settings rules (Err (early.Run e)) =
      RanRules remaining contents old new (plan_of stream settings rules) (Err e)
  RanInput None false stream settings rules (Err (early.Refused refusal)) = ⊥
  RanInput None true stream settings rules result = AnswersWordRun remaining contents old new settings rules result
  RanInput (Some byte) word stream settings rules result =
      AnswersMask remaining contents old new settings rules (mask_of byte word) result

  -- the same by a rule file, given which rules it holds
  abbrev pub RanInputIn : (List Rule → Type 0) → Option ℕ → Bool → Bool → Settings → Result (Unit {0}) EarlyError → Type 0
  RanInputIn holds None false stream settings (Ok done) =
      RanIn remaining contents old new holds (plan_of stream settings) (Ok done)
  RanInputIn holds None false stream settings (Err (early.Run e)) =
      RanIn remaining contents old new holds (plan_of stream settings) (Err e)
  RanInputIn holds None false stream settings (Err (early.Refused refusal)) = ⊥
  RanInputIn holds None true stream settings result = AnswersWordRunIn remaining contents old new holds settings result
  RanInputIn holds (Some byte) word stream settings result =
      AnswersMaskIn remaining contents old new holds settings (mask_of byte word) result

-- where the job masks, no pattern occurs in what was written since
abbrev pub MasksCleanly : {W : Type 0} → Job → Watched W → Watched W → Type 0
MasksCleanly (jobs.Mask prepared) before after =
    LeavesNone prepared.mask prepared.settings prepared.rules.now before after
MasksCleanly other before after = Unit {0}

-- the tally has grown by as many matches as the job found, or words; a mask counts nothing
abbrev pub CountsJob : {R : Type 0} → Job → Watched R → Watched R → Tally → Tally → Type 0
CountsJob (jobs.Run plan) reader_before reader_after before after =
    Counts (plan_matches plan) reader_before reader_after before after
CountsJob (jobs.Mask prepared) reader_before reader_after before after = after ≡ before
CountsJob (jobs.Words prepared) reader_before reader_after before after =
    Counts (plan_words prepared.settings prepared.rules.now) reader_before reader_after before after

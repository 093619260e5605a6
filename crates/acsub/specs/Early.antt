-- Runs that always write while they read, a mask and one for whole words: what each of their results means, and their cost.
use Rattle.std.specs.Prelude.{◌≡◌, ℕ, ◌+◌, ◌*◌, ◌<◌, ◌≤◌, List, ◌++◌, length, Result, Ok, Err, OnOk}
use Rattle.std.specs.List.{concat}
use Rattle.ac_input.specs.Rules.{Rule}
use Rattle.ac_input.specs.declared.steps.Steps.{Steps}
use Rattle.ac_automaton.specs.declared.error.StreamError.{StreamError}
use Rattle.ac_automaton.specs.declared.error.StreamError.TheVariants as stream
use Rattle.ac_automaton.specs.declared.stream.devices.watched.Watched.{Watched}
use Rattle.acsub.specs.Plan.{Plan}
use Rattle.acsub.specs.Served.{AreLooksFor, IsNotBuilt}
use Rattle.acsub.specs.declared.args.settings.SettingError.{SettingError}
use Rattle.acsub.specs.declared.args.settings.Settings.{Settings}
use Rattle.acsub.specs.declared.early.EarlyError.{EarlyError}
use Rattle.acsub.specs.declared.early.EarlyError.TheVariants as early
use Rattle.acsub.specs.declared.early.Refusal.{Refusal}
use Rattle.acsub.specs.declared.early.Refusal.TheVariants as refusals
use Rattle.acsub.specs.declared.error.RunError.{RunError}
use Rattle.acsub.specs.declared.error.RunError.TheVariants as errors
use Rattle.acsub.specs.declared.rules.RuleError.TheVariants as rule_errors

-- What such a run asks of settings and rules: by which settings the automaton is built; that the run can be made; and why
-- not, by an error of the settings or by a refusal.
pub record Demand : Type 1 where
  pub rules : List Rule
  pub built : Settings
  pub fits : Type 0
  pub excludes : SettingError → Type 0
  pub refuses : Refusal → Type 0

-- the rank of a refusal: of those that apply to a run, the lowest is reported
abbrev pub refusal_order : Refusal → ℕ
refusal_order refusals.LeftmostMasked = 0
refusal_order refusals.PackedMasked = 1
refusal_order refusals.NoRules = 2
refusal_order refusals.EmptyMasked = 3
refusal_order (refusals.Occurs byte) = 4
refusal_order refusals.PackedWord = 5
refusal_order refusals.EmptyWord = 6

-- of the refusals that apply, the first
abbrev pub IsFirstRefusal : (Refusal → Type 0) → Refusal → Type 0
IsFirstRefusal applies refusal =
    applies refusal × ((earlier : Refusal) → refusal_order earlier < refusal_order refusal → ¬ applies earlier)

-- why a check of it fails
abbrev pub IsUnmet : Demand → EarlyError → Type 0
IsUnmet d (early.Refused refusal) = d.refuses refusal
IsUnmet d (early.Run (errors.Setting e)) = d.excludes e
IsUnmet d (early.Run other) = ⊥

-- why such a run is not prepared: the check fails, or the build passes a limit, or memory runs out for it
abbrev pub IsUnready : Demand → EarlyError → Type 0
IsUnready d (early.Refused refusal) = d.refuses refusal
IsUnready d (early.Run (errors.Setting e)) = d.excludes e
IsUnready d (early.Run (errors.Build kind)) = d.fits × IsNotBuilt d.built d.rules kind
IsUnready d (early.Run errors.Memory) = d.fits
IsUnready d (early.Run other) = ⊥

-- the result of such a run, once it was prepared
abbrev pub as_early : Result (Unit {0}) RunError → Result (Unit {0}) EarlyError
as_early (Ok done) = Ok done
as_early (Err e) = Err (early.Run e)

module _ {R W : Type 0} (old new : Watched R × Watched W) where
  -- What each result means; `writes` says what was read and written with the result of a stream. A refused run has touched
  -- neither device, nor has one that is out of memory.
  abbrev pub AnswersEarly : Demand → (Result (Unit {0}) StreamError → Type 0) → Result (Unit {0}) EarlyError → Type 0
  AnswersEarly d writes (Ok done) = writes (Ok done)
  AnswersEarly d writes (Err (early.Refused refusal)) = d.refuses refusal × (new ≡ old)
  AnswersEarly d writes (Err (early.Run (errors.Rule e))) = ⊥
  AnswersEarly d writes (Err (early.Run (errors.Setting e))) = d.excludes e × (new ≡ old)
  AnswersEarly d writes (Err (early.Run (errors.Build kind))) =
      d.fits × IsNotBuilt d.built d.rules kind × (new ≡ old)
  AnswersEarly d writes (Err (early.Run (errors.Read e))) = writes (Err (stream.Read e))
  AnswersEarly d writes (Err (early.Run (errors.Write e))) = writes (Err (stream.Write e))
  AnswersEarly d writes (Err (early.Run errors.WriteZero)) = writes (Err stream.WriteZero)
  AnswersEarly d writes (Err (early.Run errors.Memory)) = d.fits × (new ≡ old)
  AnswersEarly d writes (Err (early.Run errors.Position)) = writes (Err stream.Position)

  -- The same by a rule file, given which rules it holds. If a line is no rule, or memory ran out while the rules were
  -- decoded, neither device was touched.
  abbrev pub AnswersEarlyIn : (List Rule → Type 0) → (List Rule → Result (Unit {0}) EarlyError → Type 0)
      → Result (Unit {0}) EarlyError → Type 0
  AnswersEarlyIn holds answers (Err (early.Run (errors.Rule (rule_errors.Line n)))) = new ≡ old
  AnswersEarlyIn holds answers (Err (early.Run errors.Memory)) = (rules : List Rule) × holds rules × (new ≡ old)
  AnswersEarlyIn holds answers result = (rules : List Rule) × holds rules × answers rules result

-- What such a run costs, by the bytes that it read, of which so many count: at most two looks for each, or one where a
-- DFA serves, and in each buffer for the input a seventh of the bytes moved. If it returns Ok, it has looked at each.
pub record CostsEarly {R : Type 0} (plan : Plan) (looks_for : List ℕ → ℕ) (buffers : ℕ)
    (reader_before reader_after : Watched R) (before after : Steps)
    (result : Result (Unit {0}) EarlyError) : Type 0 where
  pub gained : List (List ℕ)
  pub read : reader_after.pieces.items ≡ reader_before.pieces.items ++ gained
  pub looked : AreLooksFor plan (looks_for (concat gained)) before after
  pub some : OnOk result (before.looked.value + length (concat gained) ≤ after.looked.value)
  pub scanned : after.scanned.value ≡ before.scanned.value
  pub moved : 7 * after.moved.value ≤ 7 * before.moved.value + buffers * length (concat gained)

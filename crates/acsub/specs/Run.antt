-- What a run writes, and what each of its results means. `old` and `new` are reader and writer, before and after.
pub mod RunLaws
pub mod Sending
pub mod Transformed
use Rattle.std.specs.Prelude.{◌≡◌, ◌⊎◌, ℕ, ◌+◌, ◌-◌, ◌*◌, ◌≤◌, false, List, [], ◌++◌, length, take, Result, Option, Ok, Err, OnOk}
use Rattle.std.specs.List.{All, concat}
use Rattle.ac_input.specs.Laws.BeginningLaws.{IsBeginning}
use Rattle.ac_input.specs.Number.{usize_max}
use Rattle.ac_input.specs.Rules.{IsRuleFile, Rule}
use Rattle.ac_input.specs.declared.steps.Steps.{Steps}
use Rattle.ac_automaton.specs.Stream.Devices.Moved.{AreFilled, AreWhole, HasGiven, HasTaken, Moved}
use Rattle.ac_automaton.specs.Stream.{read_again}
use Rattle.ac_automaton.specs.declared.stream.devices.watched.Watched.{Watched}
use Rattle.acsub.specs.declared.rules.RuleError.{RuleError}
use Rattle.acsub.specs.declared.rules.RuleError.TheVariants as rule_errors
use Rattle.acsub.specs.declared.error.RunError.{RunError}
use Rattle.acsub.specs.declared.error.RunError.TheVariants as errors
use Rattle.acsub.specs.declared.args.settings.Settings.{Settings}
use Rattle.acsub.specs.Matches.{IsHeldCost}
use Rattle.acsub.specs.Finder.{whole_walk}
use Rattle.acsub.specs.Plan.{Plan, plan_of}
use Rattle.acsub.specs.Served.{AreLooksFor, IsBuildable, IsNotBuilt, dictionary_for}
use Rattle.acsub.specs.Args.Settings.{IsAccepted, IsFirstExclusion}
use Rattle.acsub.specs.Run.Transformed.{IsOutputFront, IsStreamed, output_of, room_in}

-- ---- the text of the whole input

-- Reads returned these pieces: only the last one is empty. The text that the settings make of them was written, by
-- rules for which `holds` stands.
pub record WroteText {R W : Type 0} (settings : Settings) (holds : List Rule → Type 0)
    (old new : Watched R × Watched W) : Type 0 where
  pub rules : List Rule
  pub held : holds rules
  pub pieces : List (List ℕ)
  pub read : new.0.pieces.items ≡ old.0.pieces.items ++ pieces
  pub whole : AreWhole pieces
  pub written : new.1.taken.bytes ≡ old.1.taken.bytes ++ output_of settings rules (concat pieces)

-- ---- what a result means, given the settings and the rules

-- The run got past its build: the settings are accepted with the rules, and some automaton can be built of them. A
-- prefix of the text of what was read was written, and so many calls failed. If the text is written while the input is
-- read, no read returned more than the buffer has room for.
pub record HasBegun (plan : Plan) (m : Moved) (reads writes stalls : ℕ) : Type 0 where
  pub accepted : IsAccepted plan.settings plan.rules
  pub within : IsBuildable plan.settings plan.rules
  pub short : IsStreamed plan → All (λ piece. length piece ≤ room_in plan.settings.mode plan.rules) m.pieces
  pub written : IsBeginning m.taken (output_of plan.settings plan.rules (concat m.pieces))
  pub failed_reads : m.failed_reads ≡ reads
  pub failed_writes : m.failed_writes ≡ writes
  pub stalled_writes : m.stalled_writes ≡ stalls

-- The input was read to its end, and all of its text was written.
pub record RanWhole (plan : Plan) (m : Moved) : Type 0 where
  pub whole : AreWhole m.pieces
  pub written : m.taken ≡ output_of plan.settings plan.rules (concat m.pieces)

-- A write failed, or was passed bytes and took none. A run that writes while it reads had written all that could be
-- written before the last read. Any other run had read its input to the end.
pub record RanToFailedWrite (plan : Plan) (m : Moved) (stalls : ℕ) : Type 0 where
  pub begun : HasBegun plan m 0 1 stalls
  pub streamed : IsStreamed plan
      → (early : List ℕ) × IsOutputFront plan.settings plan.rules (concat (take (length m.pieces - 1) m.pieces)) early
      × IsBeginning early m.taken
  pub whole_input : ¬ IsStreamed plan → AreWhole m.pieces

-- What each result of a run means, given what was moved. A refused run has touched neither device. Where a read failed,
-- a run that writes while it reads had written all that can be written of what was read, and any other run nothing.
-- Where memory ran out, neither device was touched, or the input was to be held and its end was not read.
abbrev pub AnswersRules : {R W : Type 0} → Watched R × Watched W → Watched R × Watched W → Plan → Moved
    → Result (Unit {0}) RunError → Type 0
AnswersRules old new plan m (Ok done) = HasBegun plan m 0 0 0 × RanWhole plan m
AnswersRules old new plan m (Err (errors.Rule e)) = ⊥
AnswersRules old new plan m (Err (errors.Setting e)) = IsFirstExclusion plan.settings plan.rules e × (new ≡ old)
AnswersRules old new plan m (Err (errors.Build kind)) =
    IsAccepted plan.settings plan.rules × IsNotBuilt plan.settings plan.rules kind × (new ≡ old)
AnswersRules old new plan m (Err (errors.Read e)) =
    HasBegun plan m 1 0 0 × (IsStreamed plan → IsOutputFront plan.settings plan.rules (concat m.pieces) m.taken)
    × (¬ IsStreamed plan → m.taken ≡ [])
AnswersRules old new plan m (Err (errors.Write e)) = RanToFailedWrite plan m 0
AnswersRules old new plan m (Err errors.WriteZero) = RanToFailedWrite plan m 1
AnswersRules old new plan m (Err errors.Memory) =
    IsAccepted plan.settings plan.rules
    × ((new ≡ old) ⊎ (HasBegun plan m 0 0 0 × ¬ IsStreamed plan × AreFilled m.pieces × (m.taken ≡ [])))
AnswersRules old new plan m (Err errors.Position) =
    HasBegun plan m 0 0 0 × IsStreamed plan × ¬ (length (concat m.pieces) ≤ usize_max)

-- what the run of a plan read, wrote and returned
abbrev pub RanRules : {R W : Type 0} → (R → Option (List ℕ)) → (W → Option (List ℕ)) → Watched R × Watched W
    → Watched R × Watched W → Plan → Result (Unit {0}) RunError → Type 0
RanRules remaining contents old new plan result =
    (m : Moved) × HasGiven remaining old.0 new.0 m.pieces m.failed_reads
    × HasTaken contents old.1 new.1 m.taken m.failed_writes m.stalled_writes × AnswersRules old new plan m result

-- What a run by a rule file read, wrote and returned, given which rules the file holds and the plan for them. If a line
-- is no rule, or memory ran out while the rules were decoded, neither device was touched.
abbrev pub RanIn : {R W : Type 0} → (R → Option (List ℕ)) → (W → Option (List ℕ)) → Watched R × Watched W
    → Watched R × Watched W → (List Rule → Type 0) → (List Rule → Plan) → Result (Unit {0}) RunError → Type 0
RanIn remaining contents old new holds plan (Err (errors.Rule (rule_errors.Line n))) = new ≡ old
RanIn remaining contents old new holds plan (Err errors.Memory) =
    (rules : List Rule) × holds rules
    × ((new ≡ old) ⊎ RanRules remaining contents old new (plan rules) (Err errors.Memory))
RanIn remaining contents old new holds plan result =
    (rules : List Rule) × holds rules × RanRules remaining contents old new (plan rules) result

-- what a run by a rule file of hex read, wrote and returned, without a request to stream
abbrev pub Ran : {R W : Type 0} → (R → Option (List ℕ)) → (W → Option (List ℕ)) → Watched R × Watched W
    → Watched R × Watched W → Settings → List ℕ → Result (Unit {0}) RunError → Type 0
Ran remaining contents old new settings file =
    RanIn remaining contents old new (IsRuleFile file) (plan_of false settings)

-- ---- what a run costs

-- how many bytes a search of a stream looks at: each byte once, and under a leftmost kind each once more, read ahead in
-- vain, and some of them again after matches
abbrev pub read_for_run : Plan → List ℕ → ℕ
read_for_run plan x =
    length x + read_again (dictionary_for plan.settings plan.rules) (length x) (length (whole_walk plan x))

-- What it may cost to read these bytes, and to write their text meanwhile. The automaton that serves the plan limits
-- the look-ups. No place is scanned, and at most a seventh as many bytes as were read are moved within the buffer.
pub record IsRunCost (plan : Plan) (x : List ℕ) (before after : Steps) : Type 0 where
  pub looked : AreLooksFor plan (read_for_run plan x) before after
  pub scanned : after.scanned.value ≡ before.scanned.value
  pub moved : 7 * after.moved.value ≤ 7 * before.moved.value + length x

-- What a run costs, by the bytes that it read. A run that writes while it reads, and returns Ok, has made at least one
-- look-up for each of them.
pub record CostsRun {R : Type 0} (plan : Plan) (reader_before reader_after : Watched R) (before after : Steps)
    (result : Result (Unit {0}) RunError) : Type 0 where
  pub gained : List (List ℕ)
  pub read : reader_after.pieces.items ≡ reader_before.pieces.items ++ gained
  pub streamed : IsStreamed plan → IsRunCost plan (concat gained) before after
  pub whole : IsStreamed plan → OnOk result (before.looked.value + length (concat gained) ≤ after.looked.value)
  pub whole_input : ¬ IsStreamed plan → IsHeldCost plan (length (concat gained)) before after

-- the error of a run whose rules could not be read: the first bad line, or out of memory
abbrev pub not_read : RuleError → RunError
not_read (rule_errors.Line n) = errors.Rule (rule_errors.Line n)
not_read rule_errors.Memory = errors.Memory

-- the plan's settings are accepted with its rules, and its automaton can be built
abbrev pub IsPrepared : Plan → Type 0
IsPrepared plan = IsAccepted plan.settings plan.rules × IsBuildable plan.settings plan.rules

-- the plan, prepared; or why it can't be run
abbrev pub Prepares : Plan → Result Plan RunError → Type 0
Prepares asked (Ok plan) = (plan ≡ asked) × IsPrepared asked
Prepares asked (Err (errors.Setting e)) = IsFirstExclusion asked.settings asked.rules e
Prepares asked (Err (errors.Build kind)) =
    IsAccepted asked.settings asked.rules × IsNotBuilt asked.settings asked.rules kind
Prepares asked (Err errors.Memory) = IsAccepted asked.settings asked.rules
Prepares asked (Err other) = ⊥

-- what a run by a rule file costs, given which rules the file holds and the plan for them
abbrev pub CostsIn : {R : Type 0} → (List Rule → Type 0) → (List Rule → Plan) → Watched R → Watched R → Steps → Steps
    → Result (Unit {0}) RunError → Type 0
CostsIn holds plan reader_before reader_after before after result =
    (rules : List Rule) → holds rules → CostsRun (plan rules) reader_before reader_after before after result

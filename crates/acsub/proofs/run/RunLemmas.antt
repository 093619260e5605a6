-- Results of a run, given what was moved.
use Rattle.std.proofs.Common.{◌≡◌, ℕ, false, Option, List, [], ◌++◌, Result, Ok, Err, inl, inr, refl, sym, ap, ◌∙◌, subst, add-zero}
use Rattle.std.specs.Prelude.{IfErr, OnOk}
use Rattle.std.specs.List.{concat}
use Rattle.std.proofs.lemmas.List.{append-nil}
use Rattle.ac_automaton.specs.Stream.Devices.Moved.{AreWhole, HasGiven, HasMoved, Moved}
use Rattle.ac_automaton.specs.Stream.Devices.Output.{Sends, Sent, Stopped}
use Rattle.ac_automaton.specs.Stream.Devices.Watched.{IsOfWrite}
use Rattle.ac_automaton.specs.declared.error.StreamError.{StreamError}
use Rattle.ac_automaton.specs.declared.error.StreamError.TheVariants as stream
use Rattle.ac_automaton.specs.declared.stream.devices.watched.Watched.{Watched}
use Rattle.ac_automaton.proofs.stream.devices.MovedLemmas.{given-none, taken-none}
use Rattle.ac_automaton.proofs.stream.devices.OutputLemmas.{HasTaken-from_sent, HasTaken-from_stopped}
use Rattle.acsub.specs.declared.error.RunError.{RunError}
use Rattle.acsub.specs.declared.error.RunError.TheVariants as errors
use Rattle.acsub.specs.declared.args.settings.Settings.{Settings}
use Rattle.acsub.specs.Input.{ReadsWhole}
use Rattle.acsub.specs.Args.Settings.{IsAccepted}
use Rattle.acsub.specs.Stream.{IsNoRefusal, IsReturnedAs}
use Rattle.acsub.specs.Run.Transformed.{IsStreamed, output_of}
use Rattle.ac_input.specs.Laws.BeginningLaws.{IsBeginning}
use Rattle.ac_input.specs.Rules.{IsRuleFile, Rule}
use Rattle.acsub.specs.Run.{AnswersRules, HasBegun, Prepares, Ran, RanRules, RanToFailedWrite, WroteText}
use Rattle.acsub.specs.Run.Sending.{SendsText}
use Rattle.acsub.specs.Served.{IsBuildable}
use Rattle.acsub.specs.Finder.{FailsToBuild}
use Rattle.acsub.specs.Plan.{Plan, plan_of}

-- what is moved where nothing was read and nothing written
abbrev pub nothing_moved : Moved
nothing_moved = record { pieces = []; failed_reads = 0; taken = []; failed_writes = 0; stalled_writes = 0 }

-- if no device was touched, nothing was moved
pub HasMoved-nothing : {R W : Type 0} (remaining : R → Option (List ℕ)) (contents : W → Option (List ℕ)) (r : Watched R)
    (w : Watched W) → HasMoved remaining contents r r w w nothing_moved
HasMoved-nothing remaining contents r w = record { reader = given-none; writer = taken-none }

-- a run that got past its build, holds its input, and has written a prefix of its text
begun_held : (plan : Plan) (m : Moved) → IsAccepted plan.settings plan.rules → IsBuildable plan.settings plan.rules
    → ¬ IsStreamed plan → IsBeginning m.taken (output_of plan.settings plan.rules (concat m.pieces))
    → HasBegun plan m m.failed_reads m.failed_writes m.stalled_writes
begun_held plan m accepted within held written =
    record {
      accepted = accepted;
      within = within;
      short = λ streamed. absurd (held streamed);
      written = written;
      failed_reads = refl;
      failed_writes = refl;
      stalled_writes = refl;
    }

-- a whole text is a prefix of itself
pub whole-begins : {text all : List ℕ} → text ≡ all → IsBeginning text all
whole-begins {text} is = ([], sym is ∙ sym (append-nil text))

-- the result where the input could not be read to its end
pub read_answer : {R W : Type 0} (remaining : R → Option (List ℕ)) (contents : W → Option (List ℕ)) (plan : Plan)
    (r r' : Watched R) (w : Watched W) (e : RunError) → IsAccepted plan.settings plan.rules
    → IsBuildable plan.settings plan.rules → ¬ IsStreamed plan → ReadsWhole remaining r r' (Err e)
    → RanRules remaining contents (r, w) (r', w) plan (Err e)
read_answer remaining contents plan r r' w (errors.Rule e) accepted within held h = absurd h
read_answer remaining contents plan r r' w (errors.Setting e) accepted within held h = absurd h
read_answer remaining contents plan r r' w (errors.Build kind) accepted within held h = absurd h
read_answer remaining contents plan r r' w (errors.Read e) accepted within held h =
    let m : Moved =
    record { pieces = h.0; failed_reads = 1; taken = []; failed_writes = 0; stalled_writes = 0 } in (
      m,
      h.1,
      taken-none,
      (begun_held plan m accepted within held (_, refl), λ streamed. absurd (held streamed), λ _. refl),
    )
read_answer remaining contents plan r r' w (errors.Write e) accepted within held h = absurd h
read_answer remaining contents plan r r' w errors.WriteZero accepted within held h = absurd h
read_answer remaining contents plan r r' w errors.Memory accepted within held h =
    let m : Moved =
    record { pieces = h.0; failed_reads = 0; taken = []; failed_writes = 0; stalled_writes = 0 } in (
      m,
      h.1,
      taken-none,
      (accepted, inr (begun_held plan m accepted within held (_, refl), held, h.2, refl)),
    )
read_answer remaining contents plan r r' w errors.Position accepted within held h = absurd h

-- the result where a write failed after the input was read to its end
write_failed : {W : Type 0} (contents : W → Option (List ℕ)) (plan : Plan) (w w' : Watched W) (pieces : List (List ℕ))
    (input : List ℕ) (stalls : ℕ) (s : Stopped contents w w' [] (output_of plan.settings plan.rules input))
    → IsAccepted plan.settings plan.rules → IsBuildable plan.settings plan.rules → ¬ IsStreamed plan → AreWhole pieces
    → input ≡ concat pieces
    → RanToFailedWrite plan
    (record { pieces = pieces; failed_reads = 0; taken = s.gained; failed_writes = 1; stalled_writes = stalls }) stalls
write_failed contents plan w w' pieces input stalls s accepted within held whole is =
    let m : Moved =
    record { pieces = pieces; failed_reads = 0; taken = s.gained; failed_writes = 1; stalled_writes = stalls } in
    record {
      begun = begun_held plan m accepted within held
          (s.lost, ap (output_of plan.settings plan.rules) (sym is) ∙ sym s.order);
      streamed = λ streamed. absurd (held streamed);
      whole_input = λ _. whole;
    }

module _ {R W : Type 0} (remaining : R → Option (List ℕ)) (contents : W → Option (List ℕ))
    (old new : Watched R × Watched W) (plan : Plan) (pieces : List (List ℕ)) (input : List ℕ)
    (accepted : IsAccepted plan.settings plan.rules) (within : IsBuildable plan.settings plan.rules)
    (held : ¬ IsStreamed plan) (gave : HasGiven remaining old.0 new.0 pieces 0) (whole : AreWhole pieces)
    (is : input ≡ concat pieces) where
  -- the result after the input was read to its end and its text was written
  written_answer : Sent contents old.1 new.1 [] [] (output_of plan.settings plan.rules input)
      → RanRules remaining contents old new plan (Ok tt)
  written_answer sent =
      let m : Moved =
      record { pieces = pieces; failed_reads = 0; taken = sent.gained; failed_writes = 0; stalled_writes = 0 } in
      let written : sent.gained ≡ output_of plan.settings plan.rules (concat pieces) =
      sym (append-nil sent.gained) ∙ sent.order ∙ ap (output_of plan.settings plan.rules) is in (
        m,
        gave,
        HasTaken-from_sent sent,
        (begun_held plan m accepted within held (whole-begins written), record { whole = whole; written = written }),
      )

  -- the result where a write failed after the input was read to its end
  write_answer : (error : StreamError) (result : Result (Unit {0}) RunError) → IsReturnedAs (Err error) result
      → Stopped contents old.1 new.1 [] (output_of plan.settings plan.rules input) → IsOfWrite old.1 new.1 error
      → RanRules remaining contents old new plan result
  write_answer (stream.Config error) result t stopped kind = absurd kind
  write_answer (stream.Read error) result t stopped kind = absurd kind
  write_answer (stream.Write error) result t stopped kind = subst (RanRules remaining contents old new plan) (sym t) (
    record { pieces = pieces; failed_reads = 0; taken = stopped.gained; failed_writes = 1; stalled_writes = 0 },
    gave,
    HasTaken-from_stopped stopped (kind ∙ sym (add-zero _)),
    write_failed contents plan old.1 new.1 pieces input 0 stopped accepted within held whole is,
  )
  write_answer stream.WriteZero result t stopped kind = subst (RanRules remaining contents old new plan) (sym t) (
    record { pieces = pieces; failed_reads = 0; taken = stopped.gained; failed_writes = 1; stalled_writes = 1 },
    gave,
    HasTaken-from_stopped stopped kind,
    write_failed contents plan old.1 new.1 pieces input 1 stopped accepted within held whole is,
  )
  write_answer stream.Memory result t stopped kind = absurd kind
  write_answer stream.Position result t stopped kind = absurd kind

  -- the result after the input was read to its end and its text was sent
  pub held_answer : (sent : Result (Unit {0}) StreamError) (result : Result (Unit {0}) RunError)
      → IsReturnedAs sent result → SendsText contents plan input old.1 new.1 sent
      → RanRules remaining contents old new plan result
  held_answer (Ok done) result told sends =
      subst (RanRules remaining contents old new plan) (sym told) (written_answer sends)
  held_answer (Err error) result told sends = write_answer error result told sends.0 sends.1

-- the result of a text that was sent is never a refused search
pub sends-accepted : {W : Type 0} (contents : W → Option (List ℕ)) (w w' : Watched W) (text : List ℕ)
    (sent : Result (Unit {0}) StreamError) → Sends contents text w w' [] [] sent → IfErr sent IsNoRefusal
sends-accepted contents w w' text (Ok done) sends = tt
sends-accepted contents w w' text (Err error) sends = λ refusal e. subst (IsOfWrite w w') e sends.1

-- ---- a run that touched neither device

module _ {R W : Type 0} (remaining : R → Option (List ℕ)) (contents : W → Option (List ℕ))
    (old : Watched R × Watched W) where
  -- its result fits if it fits that nothing was moved
  ran_nothing : (plan : Plan) (result : Result (Unit {0}) RunError) → AnswersRules old old plan nothing_moved result
      → RanRules remaining contents old old plan result
  ran_nothing plan result answer = (nothing_moved, given-none, taken-none, answer)

  -- if memory ran out before anything was read, nothing was moved
  pub memory_ran : (plan : Plan) → IsAccepted plan.settings plan.rules
      → RanRules remaining contents old old plan (Err errors.Memory)
  memory_ran plan accepted = ran_nothing plan (Err errors.Memory) (accepted, inl refl)

  -- the reason why nothing was prepared is the run's result
  pub unprepared_ran : (asked : Plan) (e : RunError) → Prepares asked (Err e)
      → RanRules remaining contents old old asked (Err e)
  unprepared_ran asked (errors.Rule e) h = absurd h
  unprepared_ran asked (errors.Setting e) h = ran_nothing asked (Err (errors.Setting e)) (h, refl)
  unprepared_ran asked (errors.Build kind) h = ran_nothing asked (Err (errors.Build kind)) (h.0, h.1, refl)
  unprepared_ran asked (errors.Read e) h = absurd h
  unprepared_ran asked (errors.Write e) h = absurd h
  unprepared_ran asked errors.WriteZero h = absurd h
  unprepared_ran asked errors.Memory h = memory_ran asked h
  unprepared_ran asked errors.Position h = absurd h

-- for accepted rules, the reason why nothing was built is the reason why nothing was prepared
pub built_error : (asked : Plan) (e : RunError) → IsAccepted asked.settings asked.rules
    → FailsToBuild asked.settings asked.rules e → Prepares asked (Err e)
built_error asked (errors.Rule e) accepted h = absurd h
built_error asked (errors.Setting e) accepted h = absurd h
built_error asked (errors.Build kind) accepted h = (accepted, h)
built_error asked (errors.Read e) accepted h = absurd h
built_error asked (errors.Write e) accepted h = absurd h
built_error asked errors.WriteZero accepted h = absurd h
built_error asked errors.Memory accepted h = accepted
built_error asked errors.Position accepted h = absurd h

-- ---- the text of the whole input

module _ {R W : Type 0} (remaining : R → Option (List ℕ)) (contents : W → Option (List ℕ))
    (old new : Watched R × Watched W) where
  -- a run that returns Ok has written the text of all that it read
  pub wrote-text : (plan : Plan) (holds : List Rule → Type 0) (result : Result (Unit {0}) RunError) → holds plan.rules
      → RanRules remaining contents old new plan result → OnOk result (WroteText plan.settings holds old new)
  wrote-text plan holds (Ok done) held (m, gave, took, (begun, whole)) = record {
    rules = plan.rules;
    held = held;
    pieces = m.pieces;
    read = gave.pieces;
    whole = whole.whole;
    written = took.taken ∙ ap (λ text. old.1.taken.bytes ++ text) whole.written;
  }
  wrote-text plan holds (Err error) held ran = tt

  -- so has a run by a rule file
  pub wrote-text_by : (settings : Settings) (file : List ℕ) (result : Result (Unit {0}) RunError)
      → Ran remaining contents old new settings file result
      → OnOk result (WroteText settings (IsRuleFile file) old new)
  wrote-text_by settings file (Ok done) (rules, held, ran) =
      wrote-text (plan_of false settings rules) (IsRuleFile file) (Ok done) held ran
  wrote-text_by settings file (Err error) ran = tt

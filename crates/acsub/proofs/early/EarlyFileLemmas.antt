-- A run that always writes while it reads, by a rule file in any form: its result follows from that of a run by its rules.
use Rattle.std.proofs.Common.{◌≡◌, ◌↔◌, ℕ, List, Result, Ok, Err, refl, ap}
use Rattle.ac_input.specs.Rules.{Rule}
use Rattle.ac_automaton.specs.declared.error.StreamError.{StreamError}
use Rattle.ac_automaton.specs.declared.stream.devices.watched.Watched.{Watched}
use Rattle.acsub.specs.Early.{AnswersEarly, AnswersEarlyIn, Demand}
use Rattle.acsub.specs.Rules.File.{ReadsRules, grammar_of}
use Rattle.acsub.specs.Run.{not_read}
use Rattle.acsub.specs.declared.early.EarlyError.{EarlyError}
use Rattle.acsub.specs.declared.early.EarlyError.TheVariants as early
use Rattle.acsub.specs.declared.error.RunError.{RunError}
use Rattle.acsub.specs.declared.error.RunError.TheVariants as errors
use Rattle.acsub.specs.declared.rules.Form.{Form}
use Rattle.acsub.specs.declared.rules.RuleError.{RuleError}
use Rattle.acsub.specs.declared.rules.RuleError.TheVariants as rule_errors
use Rattle.acsub.proofs.run.FileLemmas.{unread_line}

module _ {R W : Type 0} (form : Form) (file : List ℕ) (old new : Watched R × Watched W) (demand : List Rule → Demand)
    (writes : List Rule → Result (Unit {0}) StreamError → Type 0) (rules : List Rule)
    (grammar : (grammar_of form).holds file rules) where
  -- what the run by the rules did, the run by the file did
  pub early-in : (result : Result (Unit {0}) EarlyError) → AnswersEarly old new (demand rules) (writes rules) result
      → AnswersEarlyIn old new ((grammar_of form).holds file) (λ rules. AnswersEarly old new (demand rules) (writes rules))
      result
  early-in (Ok done) answers = (rules, grammar, answers)
  early-in (Err (early.Refused refusal)) answers = (rules, grammar, answers)
  early-in (Err (early.Run (errors.Rule e))) answers = absurd answers
  early-in (Err (early.Run (errors.Setting e))) answers = (rules, grammar, answers)
  early-in (Err (early.Run (errors.Build kind))) answers = (rules, grammar, answers)
  early-in (Err (early.Run (errors.Read e))) answers = (rules, grammar, answers)
  early-in (Err (early.Run (errors.Write e))) answers = (rules, grammar, answers)
  early-in (Err (early.Run errors.WriteZero)) answers = (rules, grammar, answers)
  early-in (Err (early.Run errors.Memory)) answers = (rules, grammar, answers.1)
  early-in (Err (early.Run errors.Position)) answers = (rules, grammar, answers)

-- ---- a rule file whose rules could not be read

module _ (form : Form) (file : List ℕ) (why : RuleError) (read : ReadsRules form file (Err why)) where
  -- neither device was touched
  pub early-unread : {R W : Type 0} (old : Watched R × Watched W)
      (answers : List Rule → Result (Unit {0}) EarlyError → Type 0)
      → AnswersEarlyIn old old ((grammar_of form).holds file) answers (Err (early.Run (not_read why)))
  early-unread old answers = go why read
    where
      go : (e : RuleError) → ReadsRules form file (Err e)
          → AnswersEarlyIn old old ((grammar_of form).holds file) answers (Err (early.Run (not_read e)))
      go (rule_errors.Line n) h = refl
      go rule_errors.Memory h = let had = h.memory refl in (had.0, had.1, refl)

  -- a bad line that is reported is the first one
  pub early-unread_line : (n : ℕ) → ((let r : Result (Unit {0}) EarlyError = Err (early.Run (not_read why)) in r)
      ≡ Err (early.Run (errors.Rule (rule_errors.Line n))))
      ↔ (grammar_of form).bad file n
  early-unread_line n =
      let line = unread_line form file why read n in (
        λ is. let same : not_read why ≡ errors.Rule (rule_errors.Line n) = cc in line.0 (ap Err same),
        λ bad.
            let told : (let r : Result (Unit {0}) RunError = Err (not_read why) in r)
            ≡ Err (errors.Rule (rule_errors.Line n)) = line.1 bad in
            let same : not_read why ≡ errors.Rule (rule_errors.Line n) = cc in
            ap (λ e. Err (early.Run e)) same,
      )

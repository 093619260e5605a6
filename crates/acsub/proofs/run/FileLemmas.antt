-- A run by a rule file in any form, whose result follows from that of a run by its rules.
use Rattle.std.proofs.Common.{◌≡◌, ◌↔◌, ℕ, Option, List, Result, Ok, Err, inl, inr, refl, ap, subst}
use Rattle.ac_input.specs.Rules.{Rule}
use Rattle.ac_input.specs.declared.steps.Steps.{Steps}
use Rattle.ac_automaton.specs.declared.stream.devices.watched.Watched.{Watched}
use Rattle.acsub.specs.declared.rules.Form.{Form}
use Rattle.acsub.specs.declared.rules.RuleError.{RuleError}
use Rattle.acsub.specs.declared.rules.RuleError.TheVariants as rule_errors
use Rattle.acsub.specs.declared.error.RunError.{RunError}
use Rattle.acsub.specs.declared.error.RunError.TheVariants as errors
use Rattle.acsub.specs.Rules.File.{ReadsRules, grammar_of}
use Rattle.acsub.specs.Plan.{Plan}
use Rattle.acsub.specs.Run.{CostsIn, CostsRun, RanIn, RanRules, not_read}
use Rattle.acsub.proofs.rules.GrammarLemmas.{bad_none, bad_one, file_one}
use Rattle.acsub.proofs.run.CountLemmas.{nothing_cost}

-- ---- a run by the rules of a file

module _ (form : Form) (plan : List Rule → Plan) (file : List ℕ) (rules : List Rule)
    (grammar : (grammar_of form).holds file rules) where
  -- what holds for these rules holds for every list of rules of the file
  all_rules : (P : List Rule → Type 0) → P rules → (other : List Rule) → (grammar_of form).holds file other → P other
  all_rules P p other same = subst P (file_one form file rules other grammar same) p

  module _ {R W : Type 0} (remaining : R → Option (List ℕ)) (contents : W → Option (List ℕ))
      (old new : Watched R × Watched W) where
    -- what the run of the plan for the rules did, the run by the file did
    pub ran_in : (result : Result (Unit {0}) RunError) → RanRules remaining contents old new (plan rules) result
        → RanIn remaining contents old new ((grammar_of form).holds file) plan result
    ran_in (Ok done) ran = (rules, grammar, ran)
    ran_in (Err (errors.Rule e)) ran = absurd ran.3
    ran_in (Err (errors.Setting e)) ran = (rules, grammar, ran)
    ran_in (Err (errors.Build kind)) ran = (rules, grammar, ran)
    ran_in (Err (errors.Read e)) ran = (rules, grammar, ran)
    ran_in (Err (errors.Write e)) ran = (rules, grammar, ran)
    ran_in (Err errors.WriteZero) ran = (rules, grammar, ran)
    ran_in (Err errors.Memory) ran = (rules, grammar, inr ran)
    ran_in (Err errors.Position) ran = (rules, grammar, ran)

    -- a run by rules reports no bad line, and their file has none
    pub no_bad_line : (result : Result (Unit {0}) RunError) → RanRules remaining contents old new (plan rules) result
        → (n : ℕ) → (result ≡ Err (errors.Rule (rule_errors.Line n))) ↔ (grammar_of form).bad file n
    no_bad_line result ran n = (
      λ is. absurd (subst (RanRules remaining contents old new (plan rules)) is ran).3,
      λ bad. absurd (bad_none form file n rules grammar bad),
    )

  -- what the run of the plan for the rules cost, the run by the file cost
  pub costs_in : {R : Type 0} (r r' : Watched R) (before after : Steps) (result : Result (Unit {0}) RunError)
      → CostsRun (plan rules) r r' before after result
      → CostsIn ((grammar_of form).holds file) plan r r' before after result
  costs_in r r' before after result cost = all_rules (λ rs. CostsRun (plan rs) r r' before after result) cost

-- ---- a rule file whose rules could not be read

module _ (form : Form) (file : List ℕ) (why : RuleError) (read : ReadsRules form file (Err why)) where
  -- a bad line that is reported is the first one
  pub unread_line : (n : ℕ)
      → ((let r : Result (Unit {0}) RunError = Err (not_read why) in r) ≡ Err (errors.Rule (rule_errors.Line n)))
      ↔ (grammar_of form).bad file n
  unread_line n = go why read
    where
      go : (e : RuleError) → ReadsRules form file (Err e)
          → ((let r : Result (Unit {0}) RunError = Err (not_read e) in r) ≡ Err (errors.Rule (rule_errors.Line n)))
          ↔ (grammar_of form).bad file n
      go (rule_errors.Line k) h = (
        λ is. let same : k ≡ n = cc in
            subst ((grammar_of form).bad file) same ((h.bad k).0 refl),
        λ bad. ap (λ j. Err (errors.Rule (rule_errors.Line j))) (bad_one form file k n ((h.bad k).0 refl) bad),
      )
      go rule_errors.Memory h =
          (λ is. cc, λ bad. let had = h.memory refl in absurd (bad_none form file n had.0 had.1 bad))

  -- neither device was touched
  pub unread_ran : {R W : Type 0} (remaining : R → Option (List ℕ)) (contents : W → Option (List ℕ))
      (old : Watched R × Watched W) (plan : List Rule → Plan)
      → RanIn remaining contents old old ((grammar_of form).holds file) plan (Err (not_read why))
  unread_ran remaining contents old plan = go why read
    where
      go : (e : RuleError) → ReadsRules form file (Err e)
          → RanIn remaining contents old old ((grammar_of form).holds file) plan (Err (not_read e))
      go (rule_errors.Line n) h = refl
      go rule_errors.Memory h = let had = h.memory refl in (had.0, had.1, inl refl)

  -- nothing was counted
  pub unread_costs : {R : Type 0} (r : Watched R) (plan : List Rule → Plan) (steps : Steps)
      → CostsIn ((grammar_of form).holds file) plan r r steps steps (Err (not_read why))
  unread_costs r plan steps rules grammar = nothing_cost (plan rules) r steps (not_read why)

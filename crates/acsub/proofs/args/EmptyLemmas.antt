-- Whether some pattern is empty, by the rules one after another.
use Rattle.std.proofs.Common.{◌≡◌, ◌≢◌, ℕ, ◌<◌, List, [], length, sym, ◌∙◌, arith}
use Rattle.std.proofs.lemmas.List.{get_or-map, length-map}
use Rattle.ac_input.specs.Rules.{Rule}
use Rattle.acsub.specs.Args.Settings.{HasEmptyPattern}
use Rattle.acsub.specs.Rules.Lines.{rule_at}

-- the pattern of some rule is empty
pub empty-at : (rules : List Rule) (i : ℕ) → i < length rules → (rule_at rules i).0 ≡ [] → HasEmptyPattern rules
empty-at rules i within none = (
  i,
  (let same = length-map rules (λ (rule : Rule). rule.0) in omega (arith, within, same)),
  get_or-map (λ (rule : Rule). rule.0) rules i ([], []) [] within ∙ none,
)

-- no rule's pattern is empty
pub none-empty : (rules : List Rule) → ((k : ℕ) → k < length rules → (rule_at rules k).0 ≢ [])
    → ¬ HasEmptyPattern rules
none-empty rules filled (k, within, none) =
    let same = length-map rules (λ (rule : Rule). rule.0) in
    let lt : k < length rules = omega (arith, within, same) in
    filled k lt (sym (get_or-map (λ (rule : Rule). rule.0) rules k ([], []) [] lt) ∙ none)

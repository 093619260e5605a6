-- When a text begins with no line of hex.
use Rattle.std.proofs.Common.{◌≡◌, ℕ, List, ◌∷◌, ◌++◌, Contains, sym, ◌∙◌, subst}
use Rattle.ac_input.specs.Rules.{Rule, Spells, BeginsWithRule, BeginsWithNoRule}
use Rattle.ac_input.proofs.lemmas.RuleOrderLemmas.{Contains-between, Without-from_missing, split_one}
use Rattle.ac_input.proofs.lemmas.RuleLemmas.{Spells-apart}
use Rattle.acsub.specs.Rules.Lines.{IsSpelling}

-- a text without a TAB begins with no rule
pub BeginsWithNoRule-no_tab : (text : List ℕ) → ¬ Contains text 9 → BeginsWithNoRule text
BeginsWithNoRule-no_tab text p rule more q = p (rw q.4 (Contains-between q.0 (q.1 ++ 10 ∷ more)))

-- the first TAB splits a rule: its pattern is before it, and the rest of the rule after it
tab_of_rule : (text front after : List ℕ) (rule : Rule) (more : List ℕ) → text ≡ front ++ 9 ∷ after → ¬ Contains front 9
    → (r : BeginsWithRule text rule more) → (r.0 ≡ front) × (r.1 ++ 10 ∷ more ≡ after)
tab_of_rule text front after rule more e p r =
    split_one 9 r.0 front (Spells-apart r.0 rule.0 r.2).0 (Without-from_missing front p) (sym r.4 ∙ e)

-- a text without a LF after its first TAB begins with no rule
pub BeginsWithNoRule-no_feed : (text front after : List ℕ) → text ≡ front ++ 9 ∷ after → ¬ Contains front 9
    → ¬ Contains after 10 → BeginsWithNoRule text
BeginsWithNoRule-no_feed text front after e p q rule more r =
    let tab = tab_of_rule text front after rule more e p r in
    q (rw (← tab.1) (Contains-between r.1 more))

-- if the sides of a line don't both spell bytes, the text begins with no rule
pub BeginsWithNoRule-no_digits : (text pattern after replacement more : List ℕ) → text ≡ pattern ++ 9 ∷ after
    → ¬ Contains pattern 9 → after ≡ replacement ++ 10 ∷ more → ¬ Contains replacement 10
    → ¬ (IsSpelling pattern × IsSpelling replacement) → BeginsWithNoRule text
BeginsWithNoRule-no_digits text pattern after replacement more e p f q unspelt rule rest r =
    let tab = tab_of_rule text pattern after rule rest e p r in
    let feed =
    split_one 10 r.1 replacement (Spells-apart r.1 rule.1 r.3).1 (Without-from_missing replacement q) (tab.1 ∙ f) in
    unspelt ((rule.0, subst (λ t. Spells t rule.0) tab.0 r.2), (rule.1, subst (λ t. Spells t rule.1) feed.0 r.3))

-- The lines of patterns and replacements are their rules.
use Rattle.std.proofs.Common.{◌≡◌, ◌∙◌, ◌||◌, ℕ, zero, suc, Bool, true, false, List, [], ◌∷◌, ◌++◌, append_assoc, arith, inl, inr, refl, subst, sym, ap}
use Rattle.std.specs.Prelude.{◌≢◌, Contains, length}
use Rattle.std.specs.List.{list_any}
use Rattle.std.proofs.lemmas.List.Elements.{Contains-append_cases, Contains-append_right}
use Rattle.std.proofs.lemmas.List.Folds.{list_any_at}
use Rattle.ac_input.specs.Rules.{BeginsWithAll, BeginsWithTextRule, IsWrittenAs}
use Rattle.ac_input.proofs.lemmas.RuleOrderLemmas.{Contains-between}
use Rattle.clap.specs.Words.{Text}
use Rattle.clap.specs.Walk.{is_empty}
use Rattle.acsub.specs.Args.Misuse.{ends_side, has_break}
use Rattle.acsub.specs.Given.{HoldsGiven, given_file, given_rules}
use Rattle.acsub.specs.Rules.File.{FirstLineHas, text_rules}
use Rattle.acsub.proofs.rules.FirstLineLemmas.{first-has}

-- ---- a side that nothing ends

-- no side has a byte that would end it
lacks : (side : List ℕ) (b : ℕ) → list_any ends_side side ≡ false → ends_side b ≡ true → ¬ Contains side b
lacks side b whole ends (k, low, at) =
    let bad : true ≡ false = sym (list_any_at ends_side side k b low (ap ends_side at ∙ ends)) ∙ whole in
    cc

-- a TAB before a text brings no other byte
after-tab : (side : List ℕ) (b : ℕ) → (9 ≡ b → ⊥) → ¬ Contains side b → ¬ Contains (9 ∷ side) b
after-tab side b differs none (zero, low, at) = differs at
after-tab side b differs none (suc k, low, at) = none (k, omega arith, at)

-- two sides with a TAB between them have no other byte that ends a side
lacks-both : (pattern replacement : List ℕ) (b : ℕ) → list_any ends_side pattern ≡ false
    → list_any ends_side replacement ≡ false → ends_side b ≡ true → (9 ≡ b → ⊥) → ¬ Contains (pattern ++ 9 ∷ replacement) b
lacks-both pattern replacement b first second ends differs has =
    elim (Contains-append_cases pattern (9 ∷ replacement) b has) [
      | inl here ↦ lacks pattern b first ends here
      | inr there ↦ after-tab replacement b differs (lacks replacement b second ends) there
    ]

-- a line without a CR is written as it is
written-plain : (line : List ℕ) → ¬ Contains line 13 → IsWrittenAs line line
written-plain line none = inr (
  refl,
  λ front is.
      none (subst (λ l. Contains l 13) (sym is) (Contains-append_right front (13 ∷ []) 13 (0, (omega arith), refl))),
)

filled : (pattern : List ℕ) → is_empty pattern ≡ false → pattern ≢ []
filled [] h e = cc
filled (x ∷ xs) h e = cc

or-parts : (a b : Bool) → (a || b) ≡ false → (a ≡ false) × (b ≡ false)
or-parts true b h = cc
or-parts false b h = (refl, h)

-- ---- one line

-- a pattern alone
alone : (pattern more : List ℕ) → list_any ends_side pattern ≡ false → is_empty pattern ≡ false
    → BeginsWithTextRule ((pattern ++ 10 ∷ []) ++ more) (pattern, []) more
alone pattern more whole some = (
  pattern,
  pattern,
  (lacks pattern 10 whole refl, inl (append_assoc pattern (10 ∷ []) more)),
  written-plain pattern (lacks pattern 13 whole refl),
  ((lacks pattern 9 whole refl, inr (refl, refl)), filled pattern some, λ has. absurd (omega (arith, has.1))),
)

-- a pattern and its replacement
paired : (pattern replacement more : List ℕ) → list_any ends_side pattern ≡ false
    → list_any ends_side replacement ≡ false → is_empty pattern ≡ false
    → BeginsWithTextRule ((((pattern ++ 9 ∷ []) ++ replacement) ++ 10 ∷ []) ++ more) (pattern, replacement) more
paired pattern replacement more first second some =
    let text = append_assoc ((pattern ++ 9 ∷ []) ++ replacement) (10 ∷ []) more
    ∙ ap (λ l. l ++ 10 ∷ more) (append_assoc pattern (9 ∷ []) replacement) in (
      pattern ++ 9 ∷ replacement,
      pattern ++ 9 ∷ replacement,
      (lacks-both pattern replacement 10 first second refl (λ e. absurd (omega (arith, e))), inl text),
      written-plain (pattern ++ 9 ∷ replacement)
          (lacks-both pattern replacement 13 first second refl (λ e. absurd (omega (arith, e)))),
      ((lacks pattern 9 first refl, inl refl), filled pattern some, lacks replacement 9 second refl),
    )

-- ---- all lines

-- where no line of the file has a TAB, the lines of patterns alone are their rules
all-alone : (file : List ℕ) → ¬ FirstLineHas 9 file → (patterns : List Text) → has_break patterns ≡ false
    → list_any is_empty patterns ≡ false
    → BeginsWithAll (text_rules.begins file) (given_file patterns []) (given_rules patterns []) []
unfolding alone
all-alone file none [] whole some = refl
all-alone file none (p ∷ ps) whole some =
    let here = or-parts (list_any ends_side p) (has_break ps) whole in
    let there = or-parts (is_empty p) (list_any is_empty ps) some in
    let line = alone p (given_file ps []) here.0 there.0 in (
      given_file ps [],
      (line, (λ has. absurd (lacks p 9 here.0 refl ((first-has line.2).0 has)), λ has. absurd (none has))),
      all-alone file none ps here.1 there.1,
    )

-- where all have one, those of patterns and their replacements are theirs
all-paired : (file : List ℕ) → FirstLineHas 9 file → (patterns replacements : List Text)
    → length replacements ≡ length patterns → has_break patterns ≡ false → has_break replacements ≡ false
    → list_any is_empty patterns ≡ false
    → BeginsWithAll (text_rules.begins file) (given_file patterns replacements) (given_rules patterns replacements) []
unfolding paired
all-paired file tab [] replacements many whole kept some = refl
all-paired file tab (p ∷ ps) [] many whole kept some = cc
all-paired file tab (p ∷ ps) (r ∷ rs) many whole kept some =
    let here = or-parts (list_any ends_side p) (has_break ps) whole in
    let by = or-parts (list_any ends_side r) (has_break rs) kept in
    let there = or-parts (is_empty p) (list_any is_empty ps) some in
    let line = paired p r (given_file ps rs) here.0 by.0 there.0 in (
      given_file ps rs,
      (line, (λ has. tab, λ has. (first-has line.2).1 (Contains-between p r))),
      all-paired file tab ps rs (omega (arith, many)) here.1 by.1 there.1,
    )

-- the lines of the file are the rules
pub holds-given : (patterns replacements : List Text)
    → HoldsGiven patterns replacements (given_file patterns replacements)
unfolding alone paired
holds-given [] replacements whole kept some many = refl
holds-given (p ∷ ps) [] whole kept some many =
    let here = or-parts (list_any ends_side p) (has_break ps) whole in
    let there = or-parts (is_empty p) (list_any is_empty ps) some in
    let line = alone p (given_file ps []) here.0 there.0 in
    all-alone (given_file (p ∷ ps) []) (λ has. lacks p 9 here.0 refl ((first-has line.2).0 has)) (p ∷ ps) whole some
holds-given (p ∷ ps) (r ∷ rs) whole kept some (inl none) = cc
holds-given (p ∷ ps) (r ∷ rs) whole kept some (inr many) =
    let here = or-parts (list_any ends_side p) (has_break ps) whole in
    let by = or-parts (list_any ends_side r) (has_break rs) kept in
    let there = or-parts (is_empty p) (list_any is_empty ps) some in
    let line = paired p r (given_file ps rs) here.0 by.0 there.0 in
    all-paired (given_file (p ∷ ps) (r ∷ rs)) ((first-has line.2).1 (Contains-between p r)) (p ∷ ps) (r ∷ rs) many whole
    kept some

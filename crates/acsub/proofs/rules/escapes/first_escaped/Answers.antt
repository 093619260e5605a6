-- The sides of the first line stand for bytes, or not.
use Rattle.std.proofs.Common.{◌≡◌, ℕ, List, Some, ap, ◌∙◌, subst, refl}
use Rattle.std.proofs.lemmas.Bool.{false≢true}
use Rattle.ac_input.specs.Rules.{BeginsWithEscapedRule, BeginsWithTextRule, Rule, Unescapes}
use Rattle.ac_input.proofs.lemmas.TextRuleLemmas.{BeginsWithTextRule-one}
use Rattle.acsub.specs.Rules.File.{text_rules}
use Rattle.acsub.specs.Rules.Lines.{BeginsWithLine}
use Rattle.acsub.specs.declared.rules.RuleLine.{RuleLine}
use Rattle.acsub.proofs.rules.escapes.first_escaped.Goals as goal
use Rattle.acsub.proofs.rules.escapes.first_escaped.Goals.{else-is_escaped-via-then-is_escaped+else-is_escaped-2, else-is_escaped-via-else-is_escaped}

-- the sides of a line of text, as they are written
abbrev sides_of : RuleLine → Rule
sides_of line = (line.pattern.now, line.replacement.now)

module _ (file text : List ℕ) (line : RuleLine) (is : BeginsWithLine text_rules file text (Some line)) where
  -- a line of text begins with its sides, as they are written
  written : BeginsWithTextRule text (sides_of line) line.rest.now
  written =
      let (rule, spelt, begins) = is in
      let same : rule ≡ sides_of line = ap (λ x. let r : Rule = (x, rule.1) in r) spelt.0
      ∙ ap (λ x. let r : Rule = (line.pattern.now, x) in r) spelt.1 in
      subst (λ r. BeginsWithTextRule text r line.rest.now) same begins.0

  -- the sides of an escaped rule are those of its line
  sides : (rule : Rule) (more : List ℕ) → BeginsWithEscapedRule text rule more
      → Unescapes line.pattern.now rule.0 × Unescapes line.replacement.now rule.1
  sides rule more (other, begins, pattern, replacement) =
      let same = (BeginsWithTextRule-one text other (sides_of line) more line.rest.now begins written).0 in (
        subst (λ (r : Rule). Unescapes r.0 rule.0) same pattern,
        subst (λ (r : Rule). Unescapes r.1 rule.1) same replacement,
      )

pub returns-in_err-line : goal.returns-in_err-line
returns-in_err-line c =
    rw c.from_residual.ensures (λ file is rule more escaped.
    c.in_err-line.ensures file is escaped.0.0 more (escaped.0.1, escaped.1))

pub returns-then-is_escaped-2 : goal.returns-then-is_escaped-2
returns-then-is_escaped-2 c file is =
    let line = c.in_ok-line.line in
    let begins = c.in_ok-line.ensures file is in
    let one = c.if-is_escaped.ensures.0 refl in
    let other = c.if-is_escaped-2.ensures.0 refl in (
      (one.0, other.0),
      (one.1, other.1),
      ((sides_of line, written file c.args.bytes.now line begins, one.1, other.1), begins.2.1),
    )

pub returns-else-is_escaped : goal.returns-else-is_escaped
returns-else-is_escaped c file is rule more escaped =
    let both = sides file c.args.bytes.now c.in_ok-line.line (c.in_ok-line.ensures file is) rule more escaped.0 in
    elim c.else-is_escaped.branch [
      | else-is_escaped-via-then-is_escaped+else-is_escaped-2 w ↦
          false≢true (w.if-is_escaped-2.ensures.1 (rule.1, both.1))
      | else-is_escaped-via-else-is_escaped w ↦ false≢true (w.if-is_escaped.ensures.1 (rule.0, both.0))
    ]

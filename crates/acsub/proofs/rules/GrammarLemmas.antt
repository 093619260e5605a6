-- Each form of a rule file: it has one list of rules or one first bad line, and its rules are read one after another.
use Rattle.std.proofs.Common.{◌≡◌, ◌≢◌, ℕ, ◌+◌, ◌<◌, ◌≤◌, List, [], ◌∷◌, ◌++◌, length, Some, None, inl, inr, refl, sym, ap, ◌∙◌, subst, arith}
use Rattle.std.proofs.lemmas.List.{map_push, length_push, nil_from_length}
use Rattle.ac_input.specs.Rules.{BeginsWithAll, BeginsWithEscapedRule, BeginsWithTextRule, Rule}
use Rattle.ac_input.proofs.lemmas.EscapeLemmas.{IsLineOf-escaped, IsLineOf-text, Unescapes-one}
use Rattle.ac_input.proofs.lemmas.RuleFileLemmas.{FirstBadLineOf-none, FirstBadLineOf-one, IsFileOf-from_none, IsFileOf-one, IsLineOf}
use Rattle.ac_input.proofs.lemmas.RuleLemmas.{BeginsWithRule-length, FirstBadLine-from_rules, FirstBadLine-none, FirstBadLine-one, IsRuleFile-from_none, IsRuleFile-from_rules, IsRuleFile-one, Spells-one}
use Rattle.ac_input.proofs.lemmas.RuleOrderLemmas.{all-length, all-push}
use Rattle.acsub.specs.Rules.File.{BeginsEvenly, Grammar, grammar_of}
use Rattle.acsub.specs.Rules.Lines.{BeginsWithLine, HasCount, SpellsRule}
use Rattle.acsub.specs.Rules.Sides.{rule_of, rules_of}
use Rattle.acsub.specs.declared.rules.Form.{Form}
use Rattle.acsub.specs.declared.rules.Form.TheVariants.{Escaped, Hex, Text}
use Rattle.acsub.specs.declared.rules.RuleLine.{RuleLine}
use Rattle.acsub.specs.declared.rules.Sides.{Sides}

-- ---- what holds of each form

-- lines that have a TAB exactly if the first line of their file has one are lines
even : {begins : List ℕ → Rule → List ℕ → Type 0} → IsLineOf begins → (file : List ℕ) → IsLineOf (BeginsEvenly begins file)
even is file =
    record {
      once = λ text one other m n p q. is.once text one other m n p.0 q.0;
      shorter = λ text rule more p. is.shorter text rule more p.0;
    }

-- a file has at most one list of rules
pub file_one : (form : Form) (file : List ℕ) (one other : List Rule) → (grammar_of form).holds file one
    → (grammar_of form).holds file other → one ≡ other
file_one Hex file one other p q = IsRuleFile-one file one other p q
file_one Text file one other p q =
    IsFileOf-one (BeginsEvenly BeginsWithTextRule file) (even IsLineOf-text file) file one other p q
file_one Escaped file one other p q =
    IsFileOf-one (BeginsEvenly BeginsWithEscapedRule file) (even IsLineOf-escaped file) file one other p q

-- a file has at most one first bad line
pub bad_one : (form : Form) (file : List ℕ) (one other : ℕ) → (grammar_of form).bad file one
    → (grammar_of form).bad file other → one ≡ other
bad_one Hex file one other p q = FirstBadLine-one file one other p q
bad_one Text file one other p q =
    FirstBadLineOf-one (BeginsEvenly BeginsWithTextRule file) (even IsLineOf-text file) file one other p q
bad_one Escaped file one other p q =
    FirstBadLineOf-one (BeginsEvenly BeginsWithEscapedRule file) (even IsLineOf-escaped file) file one other p q

-- a file of rules has no bad line
pub bad_none : (form : Form) (file : List ℕ) (n : ℕ) (rules : List Rule) → (grammar_of form).holds file rules
    → ¬ (grammar_of form).bad file n
bad_none Hex file n rules p q = FirstBadLine-none file n rules p q
bad_none Text file n rules p q =
    FirstBadLineOf-none (BeginsEvenly BeginsWithTextRule file) (even IsLineOf-text file) file n rules p q
bad_none Escaped file n rules p q =
    FirstBadLineOf-none (BeginsEvenly BeginsWithEscapedRule file) (even IsLineOf-escaped file) file n rules p q

-- a side stands for one list of bytes
spells_one : (form : Form) (side one other : List ℕ) → (grammar_of form).spells side one
    → (grammar_of form).spells side other → one ≡ other
spells_one Hex side one other p q = Spells-one side one other p q
spells_one Text side one other p q = p ∙ sym q
spells_one Escaped side one other p q = Unescapes-one side one other p q

-- what follows a rule is shorter than the text
rule_shorter : (form : Form) (file text : List ℕ) (rule : Rule) (more : List ℕ)
    → (grammar_of form).begins file text rule more → length more < length text
rule_shorter Hex file text rule more p = BeginsWithRule-length p
rule_shorter Text file text rule more p = IsLineOf-text.shorter text rule more p.0
rule_shorter Escaped file text rule more p = IsLineOf-escaped.shorter text rule more p.0

-- a file of nothing but rules holds them, unless it is foreign
all_held : (form : Form) (file : List ℕ) (rules : List Rule) → ¬ (grammar_of form).foreign file
    → BeginsWithAll ((grammar_of form).begins file) file rules [] → (grammar_of form).holds file rules
all_held Hex file rules native p = IsRuleFile-from_rules file rules p
all_held Text file rules native p = (native, p)
all_held Escaped file rules native p = (native, p)

-- rules up to a rest that begins with none are all that a file of rules holds
pub kept_all : (form : Form) (file : List ℕ) (all rules : List Rule) (more : List ℕ) → (grammar_of form).holds file all
    → BeginsWithAll ((grammar_of form).begins file) file rules more → BeginsWithLine (grammar_of form) file more None
    → (grammar_of form).holds file rules
kept_all Hex file all rules more p q none = IsRuleFile-from_none file all rules more p q none
kept_all Text file all rules more p q none =
    IsFileOf-from_none (BeginsEvenly BeginsWithTextRule file) (even IsLineOf-text file) file all rules more p q none
kept_all Escaped file all rules more p q none =
    IsFileOf-from_none (BeginsEvenly BeginsWithEscapedRule file) (even IsLineOf-escaped file) file all rules more p q none

-- if something is left after some rules that begins with none, the next line is the first bad one
bad_after : (form : Form) (file : List ℕ) (rules : List Rule) (more : List ℕ) → ¬ (grammar_of form).foreign file
    → BeginsWithAll ((grammar_of form).begins file) file rules more → more ≢ [] → BeginsWithLine (grammar_of form) file more None
    → (grammar_of form).bad file (length rules + 1)
bad_after Hex file rules more native p some none = FirstBadLine-from_rules rules p some none
bad_after Text file rules more native p some none = inr (native, (rules, more, p, refl, some, none))
bad_after Escaped file rules more native p some none = inr (native, (rules, more, p, refl, some, none))

-- the first line of a foreign file is a bad one
pub bad_foreign : (form : Form) (file : List ℕ) → (grammar_of form).foreign file → (grammar_of form).bad file 1
bad_foreign Hex file foreign = absurd foreign
bad_foreign Text file foreign = inl (foreign, refl)
bad_foreign Escaped file foreign = inl (foreign, refl)

-- ---- one line after another

-- the file begins with this many rules, and the rest follows
abbrev pub BeginsWithCount : Grammar → List ℕ → ℕ → List ℕ → Type 0
BeginsWithCount grammar file count rest =
    (rules : List Rule) × (count ≡ length rules) × BeginsWithAll (grammar.begins file) file rules rest

-- what follows the first line is shorter than the text
pub line_shorter : (form : Form) (file rest : List ℕ) (line : RuleLine)
    → BeginsWithLine (grammar_of form) file rest (Some line) → length line.rest.now < length rest
line_shorter form file rest line p = rule_shorter form file rest p.0 line.rest.now p.2

module _ (form : Form) (file rest : List ℕ) (count : ℕ)
    (counted : BeginsWithCount (grammar_of form) file count rest) where
  -- one more rule is counted
  pub count_more : (line : RuleLine) → BeginsWithLine (grammar_of form) file rest (Some line)
      → BeginsWithCount (grammar_of form) file (count + 1) line.rest.now
  count_more line p = (
    counted.0 ++ p.0 ∷ [],
    omega (arith, counted.1, length_push counted.0 p.0),
    all-push ((grammar_of form).begins file) file counted.0 counted.2 p.2,
  )

  -- each rule takes at least one byte of the file
  pub count_bound : length rest + count ≤ length file
  count_bound =
      let whole = all-length ((grammar_of form).begins file) (rule_shorter form file) file counted.0 rest counted.2 in
      omega (arith, counted.1, whole)

  -- if nothing is left, the rules counted are all those of the file
  pub count_all : ¬ (grammar_of form).foreign file → length rest ≡ 0 → HasCount form file count
  count_all native none =
      (counted.0, all_held form file counted.0 native (rw (nil_from_length rest none) at counted.2), counted.1)

  -- if something is left that begins with no rule, the next line is the file's first bad one
  pub count_bad : ¬ (grammar_of form).foreign file → length rest ≢ 0 → BeginsWithLine (grammar_of form) file rest None
      → (grammar_of form).bad file (count + 1)
  count_bad native some none =
      subst (λ n. (grammar_of form).bad file (n + 1)) (sym counted.1)
      (bad_after form file counted.0 rest native counted.2 (λ empty. some (ap length empty)) none)

-- one more rule is kept
pub keep_more : (form : Form) (file rest : List ℕ) (line : RuleLine) (kept : List Sides) (sides : Sides)
    → BeginsWithAll ((grammar_of form).begins file) file (rules_of kept) rest
    → BeginsWithLine (grammar_of form) file rest (Some line) → SpellsRule (grammar_of form) line (rule_of sides)
    → BeginsWithAll ((grammar_of form).begins file) file (rules_of (kept ++ sides ∷ [])) line.rest.now
keep_more form file rest line kept sides p (rule, spelt, begins) spells =
    let one = spells_one form line.pattern.now sides.pattern.items rule.0 spells.0 spelt.0 in
    let other = spells_one form line.replacement.now sides.replacement.items rule.1 spells.1 spelt.1 in
    let same : rule_of sides ≡ rule = ap (λ x. let r : Rule = (x, sides.replacement.items) in r) one
    ∙ ap (λ x. let r : Rule = (rule.0, x) in r) other in
    rw (map_push rule_of kept sides, same) (all-push ((grammar_of form).begins file) file (rules_of kept) p begins)

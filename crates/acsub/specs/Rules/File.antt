-- A rule file, in each of its forms: hex, plain text, and text with escapes.
use Rattle.std.specs.Prelude.{◌≡◌, ◌↔◌, ℕ, Bool, true, false, List, ◌++◌, Result, Err, Contains, IfOk, codes, decimal}
use Rattle.ac_input.specs.Rules.{BeginsWithEscapedRule, BeginsWithRule, BeginsWithTextRule, BeginsWithWritten, FirstBadLine, FirstBadLineOf, IsFileOf, IsForeign, IsRuleFile, Rule, Spells, Unescapes}
use Rattle.acsub.specs.declared.rules.Form.{Form}
use Rattle.acsub.specs.declared.rules.Form.TheVariants.{Escaped, Hex, Text}
use Rattle.acsub.specs.declared.rules.RuleError.{RuleError}
use Rattle.acsub.specs.declared.rules.RuleError.TheVariants.{Line, Memory}

-- How a rule file is written: the rules that a file holds; the number of its first bad line; the rule that what is left of
-- a file begins with, and what follows its line; the bytes that a side stands for, as it is written; and the files that hold
-- no rules, whatever their lines.
pub record Grammar : Type 1 where
  pub holds : List ℕ → List Rule → Type 0
  pub bad : List ℕ → ℕ → Type 0
  pub begins : List ℕ → List ℕ → Rule → List ℕ → Type 0
  pub spells : List ℕ → List ℕ → Type 0
  pub foreign : List ℕ → Type 0

-- hex, in which no file is foreign: no digit is NUL or a part of a byte order mark
abbrev pub hex_rules : Grammar
hex_rules =
    record {
      holds = IsRuleFile;
      bad = FirstBadLine;
      begins = λ file. BeginsWithRule;
      spells = Spells;
      foreign = λ file. ⊥;
    }

-- the first line of the text has this byte
abbrev pub FirstLineHas : ℕ → List ℕ → Type 0
FirstLineHas byte text = (written more : List ℕ) × BeginsWithWritten text written more × Contains written byte

-- What is left of a file begins with this rule, on a line that has a TAB exactly if the first line of the file has one.
abbrev pub BeginsEvenly : (List ℕ → Rule → List ℕ → Type 0) → List ℕ → List ℕ → Rule → List ℕ → Type 0
BeginsEvenly begins file text rule more = begins text rule more × (FirstLineHas 9 text ↔ FirstLineHas 9 file)

-- Text, by what it means that it begins with a rule, and by what a side stands for. All lines of a file have a TAB, or none
-- has: its first bad line is the first that is no rule, or that differs in this from line 1.
abbrev pub text_grammar : (List ℕ → Rule → List ℕ → Type 0) → (List ℕ → List ℕ → Type 0) → Grammar
text_grammar begins spells =
    record {
      holds = λ file. IsFileOf (BeginsEvenly begins file) file;
      bad = λ file. FirstBadLineOf (BeginsEvenly begins file) file;
      begins = BeginsEvenly begins;
      spells = spells;
      foreign = IsForeign;
    }

-- plain text, whose bytes stand for themselves
abbrev pub text_rules : Grammar
text_rules = text_grammar BeginsWithTextRule (λ side bytes. bytes ≡ side)

-- text with escapes
abbrev pub escaped_rules : Grammar
escaped_rules = text_grammar BeginsWithEscapedRule Unescapes

-- the grammar of a form
abbrev pub grammar_of : Form → Grammar
grammar_of Hex = hex_rules
grammar_of Text = text_rules
grammar_of Escaped = escaped_rules

-- the form that is asked for: text or hex, and text with escapes or without
abbrev pub asked_form : Bool → Bool → Form
asked_form true true = Escaped
asked_form true false = Text
asked_form false escapes = Hex

-- The rules of the file; or its first bad line, exactly if it has one; or memory ran out for the file's rules.
pub record ReadsRules (form : Form) (file : List ℕ) (result : Result (List Rule) RuleError) : Type 0 where
  pub rules : IfOk result ((grammar_of form).holds file)
  pub bad : (n : ℕ) → (result ≡ Err (Line n)) ↔ (grammar_of form).bad file n
  pub memory : result ≡ Err Memory → (rules : List Rule) × (grammar_of form).holds file rules

-- The text of an error.
abbrev pub rule_text : RuleError → List ℕ
rule_text (Line n) = codes "line " ++ decimal n
rule_text Memory = codes "out of memory"

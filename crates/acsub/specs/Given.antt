-- Rules that the arguments give, and the form of the rules.
use Rattle.std.specs.Prelude.{◌≡◌, ◌++◌, ◌⊎◌, Bool, true, false, ℕ, List, [], ◌∷◌, codes, drop, length}
use Rattle.std.specs.List.{list_any}
use Rattle.ac_input.specs.Rules.{BeginsWithAll, Rule}
use Rattle.clap.specs.Words.{Text}
use Rattle.clap.specs.Walk.{is_empty}
use Rattle.acsub.specs.Args.Misuse.{has_break}
use Rattle.acsub.specs.Rules.File.{asked_form, text_rules}
use Rattle.acsub.specs.declared.args.Source.{Source}
use Rattle.acsub.specs.declared.args.Source.TheVariants.{Given}
use Rattle.acsub.specs.declared.args.Words.{Words}
use Rattle.acsub.specs.declared.rules.Form.{Form}

-- the line of a pattern: with the first of the replacements, or alone
abbrev pub given_rule : Text → List Text → List ℕ
given_rule pattern [] = pattern ++ codes "\n"
given_rule pattern (replacement ∷ more) = pattern ++ codes "\t" ++ replacement ++ codes "\n"

-- the rule file of text that patterns and replacements stand for
abbrev pub given_file : List Text → List Text → List ℕ
given_file [] replacements = []
given_file (pattern ∷ more) replacements = given_rule pattern replacements ++ given_file more (drop 1 replacements)

-- the rules that they stand for: a pattern without a replacement is replaced by nothing
abbrev pub given_rules : List Text → List Text → List Rule
given_rules [] replacements = []
given_rules (pattern ∷ more) [] = (pattern, []) ∷ given_rules more []
given_rules (pattern ∷ more) (replacement ∷ others) = (pattern, replacement) ∷ given_rules more others

-- where no side has a byte that ends it, no pattern is empty, and there is a replacement for each or none at all, the lines
-- of the file are those rules
abbrev pub HoldsGiven : List Text → List Text → List ℕ → Type 0
HoldsGiven patterns replacements file =
    has_break patterns ≡ false → has_break replacements ≡ false → list_any is_empty patterns ≡ false
    → (length replacements ≡ 0) ⊎ (length replacements ≡ length patterns)
    → BeginsWithAll (text_rules.begins file) file (given_rules patterns replacements) []

-- rules of the arguments are text
abbrev pub form_by : Source → Bool → Bool → Form
form_by Given text escapes = asked_form true escapes
form_by _ text escapes = asked_form text escapes

-- the form of the rules that are asked for
abbrev pub form_wanted : Words → Form
form_wanted asked = form_by asked.source asked.text asked.escapes

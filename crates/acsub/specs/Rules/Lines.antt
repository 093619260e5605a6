-- What a text of rules begins with, and how many rules it has.
use Rattle.std.specs.Borrow.{Bor}
use Rattle.std.specs.Prelude.{◌≡◌, ◌↔◌, ℕ, Bool, IsTrue, List, [], ◌∷◌, ◌++◌, length, slice_index_or, Contains, Option, Some, None}
use Rattle.ac_input.specs.Rules.{BeginsWithByte, Rule, Spells}
use Rattle.acsub.specs.Rules.File.{FirstLineHas, Grammar, grammar_of}
use Rattle.acsub.specs.declared.rules.Form.{Form}
use Rattle.acsub.specs.declared.rules.RuleLine.{RuleLine}

-- the text spells some bytes in hex
abbrev pub IsSpelling : List ℕ → Type 0
IsSpelling text = (bytes : List ℕ) × Spells text bytes

-- the side begins with what stands for no byte
abbrev pub BeginsWithNoByte : List ℕ → Type 0
BeginsWithNoByte side = (byte : ℕ) (rest : List ℕ) → ¬ BeginsWithByte side byte rest

-- the byte that the side begins with, and what follows; or it begins with none
abbrev pub BeginsWithFound : List ℕ → Option (ℕ × Bor (List ℕ)) → Type 0
BeginsWithFound side (Some found) = BeginsWithByte side found.0 found.1.now
BeginsWithFound side None = BeginsWithNoByte side

-- the text is split at the first separator, with these bytes before it and after it
abbrev pub IsSplitAt : List ℕ → ℕ → List ℕ → List ℕ → Type 0
IsSplitAt text separator before after = (text ≡ before ++ separator ∷ after) × ¬ Contains before separator

-- both sides of the line, as they are written, stand for those of the rule
abbrev pub SpellsRule : Grammar → RuleLine → Rule → Type 0
SpellsRule grammar line rule = grammar.spells line.pattern.now rule.0 × grammar.spells line.replacement.now rule.1

-- what is left of the file begins with this line, which spells a rule; or it begins with no rule
abbrev pub BeginsWithLine : Grammar → List ℕ → List ℕ → Option RuleLine → Type 0
BeginsWithLine grammar file text (Some line) =
    (rule : Rule) × SpellsRule grammar line rule × grammar.begins file text rule line.rest.now
BeginsWithLine grammar file text None = (rule : Rule) (more : List ℕ) → ¬ grammar.begins file text rule more

-- the same in each file whose lines have a TAB exactly if this is true
abbrev pub FindsLine : Grammar → Bool → List ℕ → Option RuleLine → Type 0
FindsLine grammar tabbed text found =
    (file : List ℕ) → (IsTrue tabbed ↔ FirstLineHas 9 file) → BeginsWithLine grammar file text found

-- the file has this many rules
abbrev pub HasCount : Form → List ℕ → ℕ → Type 0
HasCount form file count = (rules : List Rule) × (grammar_of form).holds file rules × (count ≡ length rules)

-- ---- rules

-- rule i, or an empty rule past the last
abbrev pub rule_at : List Rule → ℕ → Rule
rule_at rules i = slice_index_or rules i ([], [])

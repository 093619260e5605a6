-- The rule file: lines of `hex TAB hex LF`, or lines of plain text.
use Rattle.std.specs.Prelude.{◌≡◌, ◌≢◌, ℕ, ◌+◌, ◌*◌, ◌<◌, ◌≤◌, List, [], ◌∷◌, ◌++◌, length, ◌⊎◌, Contains}

-- a hex digit of either case, and its value
abbrev pub IsDigit : ℕ → ℕ → Type 0
IsDigit c v = ((v < 10) × (c ≡ 48 + v)) ⊎ ((10 ≤ v) × (v < 16) × ((c ≡ 55 + v) ⊎ (c ≡ 87 + v)))

-- the text spells the bytes, each by two hex digits, the high half first
abbrev pub Spells : List ℕ → List ℕ → Type 0
Spells [] [] = Unit {0}
Spells (h ∷ l ∷ text) (byte ∷ bytes) =
    (high low : ℕ) × IsDigit h high × IsDigit l low × (byte ≡ 16 * high + low) × Spells text bytes
Spells text bytes = ⊥

-- a rule: a pattern and its replacement
abbrev pub Rule : Type 0
Rule = List ℕ × List ℕ

-- the text begins with a line that spells this rule, `hex TAB hex LF`; the rest follows
abbrev pub BeginsWithRule : List ℕ → Rule → List ℕ → Type 0
BeginsWithRule text rule more =
    (pattern replacement : List ℕ) × Spells pattern rule.0 × Spells replacement rule.1
    × (text ≡ pattern ++ 9 ∷ (replacement ++ 10 ∷ more))

-- the text begins with no rule
abbrev pub BeginsWithNoRule : List ℕ → Type 0
BeginsWithNoRule text = (rule : Rule) (more : List ℕ) → ¬ BeginsWithRule text rule more

-- a whole rule file, and its rules in their order
abbrev pub IsRuleFile : List ℕ → List Rule → Type 0
IsRuleFile text [] = text ≡ []
IsRuleFile text (rule ∷ rules) = (more : List ℕ) × BeginsWithRule text rule more × IsRuleFile more rules

-- the number of the first line that is no rule, counted from 1; all lines before it are rules
abbrev pub FirstBadLine : List ℕ → ℕ → Type 0
FirstBadLine text n =
    (front more : List ℕ) × (rules : List Rule) × (text ≡ front ++ more) × IsRuleFile front rules
    × (n ≡ length rules + 1) × (more ≢ []) × BeginsWithNoRule more

-- ---- plain text: a line is `pattern TAB replacement`, or a pattern alone

-- The text begins with a line whose bytes are `written`, and `more` follows it. A line ends at an LF, or at the end of
-- the text.
abbrev pub BeginsWithWritten : List ℕ → List ℕ → List ℕ → Type 0
BeginsWithWritten text written more =
    ¬ Contains written 10 × ((text ≡ written ++ 10 ∷ more) ⊎ ((text ≡ written) × (more ≡ [])))

-- the line is the written bytes without a CR at their end
abbrev pub IsWrittenAs : List ℕ → List ℕ → Type 0
IsWrittenAs line written =
    (written ≡ line ++ 13 ∷ []) ⊎ ((written ≡ line) × ((front : List ℕ) → written ≢ front ++ 13 ∷ []))

-- The sides of a line: the bytes before its first TAB, and those after it. With no TAB they are the whole line, and
-- nothing.
abbrev pub AreSidesOf : List ℕ → Rule → Type 0
AreSidesOf line rule = ¬ Contains rule.0 9 × ((line ≡ rule.0 ++ 9 ∷ rule.1) ⊎ ((line ≡ rule.0) × (rule.1 ≡ [])))

-- the text begins with a line that is this rule; the rest follows
abbrev pub BeginsWithTextRule : List ℕ → Rule → List ℕ → Type 0
BeginsWithTextRule text rule more =
    (written line : List ℕ) × BeginsWithWritten text written more × IsWrittenAs line written
    × (AreSidesOf line rule × (rule.0 ≢ []) × ¬ Contains rule.1 9)

-- the text begins with these rules, one after another, and `more` follows the last
abbrev pub BeginsWithAll : (List ℕ → Rule → List ℕ → Type 0) → List ℕ → List Rule → List ℕ → Type 0
BeginsWithAll begins text [] more = text ≡ more
BeginsWithAll begins text (rule ∷ rules) more =
    (rest : List ℕ) × begins text rule rest × BeginsWithAll begins rest rules more

-- ---- whole files of text

-- the text begins with a byte order mark, of UTF-8 or of UTF-16
abbrev pub HasMark : List ℕ → Type 0
HasMark text =
    (more : List ℕ) × ((text ≡ 239 ∷ 187 ∷ 191 ∷ more) ⊎ (text ≡ 255 ∷ 254 ∷ more) ⊎ (text ≡ 254 ∷ 255 ∷ more))

-- the first line has a NUL, as has text in UTF-16
abbrev pub HasNul : List ℕ → Type 0
HasNul text = (written more : List ℕ) × BeginsWithWritten text written more × Contains written 0

-- The file is not plain text: it begins with a byte order mark, or has a NUL in its first line.
abbrev pub IsForeign : List ℕ → Type 0
IsForeign text = HasMark text ⊎ HasNul text

-- Files of text, by what it means that a text begins with a rule.
module _ (begins : List ℕ → Rule → List ℕ → Type 0) where
  -- a whole rule file, and its rules in their order
  abbrev pub IsFileOf : List ℕ → List Rule → Type 0
  IsFileOf text rules = ¬ IsForeign text × BeginsWithAll begins text rules []

  -- all lines before line n are rules, counted from 1, and that line is none
  abbrev pub EndsRulesAt : List ℕ → ℕ → Type 0
  EndsRulesAt text n =
      (rules : List Rule) × (more : List ℕ) × BeginsWithAll begins text rules more × (n ≡ length rules + 1)
      × (more ≢ []) × ((rule : Rule) (rest : List ℕ) → ¬ begins more rule rest)

  -- the number of the first bad line: 1 where the file is not plain text, and otherwise that of the first line that is no
  -- rule
  abbrev pub FirstBadLineOf : List ℕ → ℕ → Type 0
  FirstBadLineOf text n = (IsForeign text × (n ≡ 1)) ⊎ (¬ IsForeign text × EndsRulesAt text n)

-- a whole rule file of plain text, and its rules in their order
abbrev pub IsTextRuleFile : List ℕ → List Rule → Type 0
IsTextRuleFile = IsFileOf BeginsWithTextRule

-- the number of the first bad line of plain text
abbrev pub FirstBadTextLine : List ℕ → ℕ → Type 0
FirstBadTextLine = FirstBadLineOf BeginsWithTextRule

-- ---- text with escapes

-- a backslash and this letter stand for the byte: `\t`, `\n`, `\r`, `\\`, `\0`
abbrev pub IsEscape : ℕ → ℕ → Type 0
IsEscape letter byte =
    ((letter ≡ 116) × (byte ≡ 9)) ⊎ ((letter ≡ 110) × (byte ≡ 10)) ⊎ ((letter ≡ 114) × (byte ≡ 13))
    ⊎ ((letter ≡ 92) × (byte ≡ 92)) ⊎ ((letter ≡ 48) × (byte ≡ 0))

-- A side begins with what stands for this byte, and `rest` follows: the byte itself, unless it is a backslash; or an
-- escape; or `\x` and two hex digits.
abbrev pub BeginsWithByte : List ℕ → ℕ → List ℕ → Type 0
BeginsWithByte side byte rest =
    ((side ≡ byte ∷ rest) × (byte ≢ 92)) ⊎ ((letter : ℕ) × (side ≡ 92 ∷ letter ∷ rest) × IsEscape letter byte)
    ⊎ ((high low : ℕ) × (side ≡ 92 ∷ 120 ∷ high ∷ low ∷ rest) × Spells (high ∷ low ∷ []) (byte ∷ []))

-- the side stands for these bytes, one after another
abbrev pub Unescapes : List ℕ → List ℕ → Type 0
Unescapes side [] = side ≡ []
Unescapes side (byte ∷ bytes) = (rest : List ℕ) × BeginsWithByte side byte rest × Unescapes rest bytes

-- the text begins with a line of plain text whose sides stand for those of this rule; the rest follows
abbrev pub BeginsWithEscapedRule : List ℕ → Rule → List ℕ → Type 0
BeginsWithEscapedRule text rule more =
    (written : Rule) × BeginsWithTextRule text written more × Unescapes written.0 rule.0 × Unescapes written.1 rule.1

-- a whole rule file of text with escapes, and its rules in their order
abbrev pub IsEscapedRuleFile : List ℕ → List Rule → Type 0
IsEscapedRuleFile = IsFileOf BeginsWithEscapedRule

-- the number of its first bad line
abbrev pub FirstBadEscapedLine : List ℕ → ℕ → Type 0
FirstBadEscapedLine = FirstBadLineOf BeginsWithEscapedRule

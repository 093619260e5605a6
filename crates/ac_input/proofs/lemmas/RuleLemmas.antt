-- Laws of the rule file's grammar.
use Rattle.std.proofs.Common.{◌≡◌, ◌≢◌, ℕ, ◌+◌, ◌<◌, List, [], ◌∷◌, ◌++◌, length, refl, sym, ap, ◌∙◌, subst, append_assoc, length-append, arith}
use Rattle.ac_input.specs.Rules.{IsDigit, Spells, Rule, BeginsWithAll, BeginsWithRule, IsRuleFile, FirstBadLine, BeginsWithNoRule}
use Rattle.ac_input.proofs.lemmas.RuleOrderLemmas.{Without, all-one_until, split_one}

-- ---- digits and what they spell

-- a digit has one value
pub IsDigit-one : {c v w : ℕ} → IsDigit c v → IsDigit c w → v ≡ w
IsDigit-one p q = grind arith

-- a digit is neither TAB nor LF
pub IsDigit-apart : {c v : ℕ} → IsDigit c v → (c ≢ 9) × (c ≢ 10)
IsDigit-apart p = grind arith

-- a text spells at most one list of bytes
pub Spells-one : (text one other : List ℕ) → Spells text one → Spells text other → one ≡ other
Spells-one [] [] [] p q = refl
Spells-one [] [] (y ∷ ys) p q = absurd q
Spells-one [] (x ∷ xs) other p q = absurd p
Spells-one (h ∷ []) [] other p q = absurd p
Spells-one (h ∷ []) (x ∷ xs) other p q = absurd p
Spells-one (h ∷ l ∷ text) [] other p q = absurd p
Spells-one (h ∷ l ∷ text) (x ∷ xs) [] p q = absurd q
Spells-one (h ∷ l ∷ text) (x ∷ xs) (y ∷ ys) p q =
    let high = IsDigit-one p.2 q.2 in
    let low = IsDigit-one p.3 q.3 in
    let rest = Spells-one text xs ys p.5 q.5 in
    let byte : x ≡ y = omega (arith, p.4, q.4, high, low) in
    cc

-- a text that spells bytes has neither TAB nor LF
pub Spells-apart : (text bytes : List ℕ) → Spells text bytes → Without 9 text × Without 10 text
Spells-apart [] bytes p = (tt, tt)
Spells-apart (h ∷ []) [] p = absurd p
Spells-apart (h ∷ []) (x ∷ xs) p = absurd p
Spells-apart (h ∷ l ∷ text) [] p = absurd p
Spells-apart (h ∷ l ∷ text) (x ∷ xs) p =
    let high = IsDigit-apart p.2 in
    let low = IsDigit-apart p.3 in
    let rest = Spells-apart text xs p.5 in
    ((high.0, (low.0, rest.0)), (high.1, (low.1, rest.1)))

-- ---- one rule

-- a text begins with at most one rule and one rest
pub BeginsWithRule-one : (text : List ℕ) (one other : Rule) (m n : List ℕ) → BeginsWithRule text one m
    → BeginsWithRule text other n → (one ≡ other) × (m ≡ n)
BeginsWithRule-one text one other m n p q =
    let tab = split_one 9 p.0 q.0 (Spells-apart p.0 one.0 p.2).0 (Spells-apart q.0 other.0 q.2).0 (sym p.4 ∙ q.4) in
    let feed = split_one 10 p.1 q.1 (Spells-apart p.1 one.1 p.3).1 (Spells-apart q.1 other.1 q.3).1 tab.1 in
    let pattern = Spells-one q.0 one.0 other.0 (subst (λ t. Spells t one.0) tab.0 p.2) q.2 in
    let replacement = Spells-one q.1 one.1 other.1 (subst (λ t. Spells t one.1) feed.0 p.3) q.3 in
    let same : one ≡ other = ap (λ x. let r : Rule = (x, one.1) in r) pattern
    ∙ ap (λ x. let r : Rule = (other.0, x) in r) replacement in
    (same, feed.1)

-- a list with a byte in it isn't empty
append_cons-filled : (p : List ℕ) (b : ℕ) (q : List ℕ) → p ++ b ∷ q ≢ []
append_cons-filled [] b q e = cc
append_cons-filled (x ∷ p) b q e = cc

-- a text that begins with a rule isn't empty
pub BeginsWithRule-filled : {text : List ℕ} {rule : Rule} {more : List ℕ} → BeginsWithRule text rule more → text ≢ []
BeginsWithRule-filled {more} p e = append_cons-filled p.0 9 (p.1 ++ 10 ∷ more) (sym p.4 ∙ e)

-- the rest after a rule is shorter than the text
pub BeginsWithRule-length : {text : List ℕ} {rule : Rule} {more : List ℕ} → BeginsWithRule text rule more
    → length more < length text
BeginsWithRule-length p = omega (arith, simp length-append at (ap length p.4))

-- a text that begins with a rule still does with more bytes after it
pub BeginsWithRule-append : {text : List ℕ} {rule : Rule} {more : List ℕ} (after : List ℕ)
    → BeginsWithRule text rule more → BeginsWithRule (text ++ after) rule (more ++ after)
BeginsWithRule-append after p = (p.0, p.1, p.2, p.3, ap (λ t. t ++ after) p.4 ∙ simp append_assoc)

-- ---- rules one after another

-- the text begins with these rules, in their order, and `more` follows
abbrev pub BeginsWithRules : List ℕ → List Rule → List ℕ → Type 0
BeginsWithRules = BeginsWithAll BeginsWithRule

-- a text that consists of rules is a rule file
pub IsRuleFile-from_rules : (text : List ℕ) (rules : List Rule) → BeginsWithRules text rules [] → IsRuleFile text rules
IsRuleFile-from_rules text [] p = p
IsRuleFile-from_rules text (r ∷ rules) p = (p.0, p.1, IsRuleFile-from_rules p.0 rules p.2)

-- a rule file with more bytes after it begins with the file's rules
pub BeginsWithRules-append : (front : List ℕ) (rules : List Rule) (more : List ℕ) → IsRuleFile front rules
    → BeginsWithRules (front ++ more) rules more
BeginsWithRules-append front [] more p = rw p refl
BeginsWithRules-append front (r ∷ rules) more p =
    (p.0 ++ more, BeginsWithRule-append more p.1, BeginsWithRules-append p.0 rules more p.2)

-- a line stays the same when what follows it is split in two
line_append : (pattern replacement : List ℕ) {rest : List ℕ} (front more : List ℕ) → rest ≡ front ++ more
    → pattern ++ 9 ∷ (replacement ++ 10 ∷ rest) ≡ (pattern ++ 9 ∷ (replacement ++ 10 ∷ front)) ++ more
line_append pattern replacement front more e = rw e (simp append_assoc)

-- the part of a text that rules take is a rule file with these rules
pub front_of_rules : (text : List ℕ) (rules : List Rule) {more : List ℕ} → BeginsWithRules text rules more
    → (front : List ℕ) × (text ≡ front ++ more) × IsRuleFile front rules
front_of_rules text [] p = ([], p, refl)
front_of_rules text (r ∷ rules) {more} p =
    let rest = front_of_rules p.0 rules p.2 in
    let line = p.1 in
    let front : List ℕ = line.0 ++ 9 ∷ (line.1 ++ 10 ∷ rest.0) in
    let whole : text ≡ front ++ more = line.4 ∙ line_append line.0 line.1 rest.0 more rest.1 in
    (front, whole, (rest.0, (line.0, line.1, line.2, line.3, refl), rest.2))

-- ---- whole files

-- the empty text begins with no rule
pub BeginsWithNoRule-nil : BeginsWithNoRule []
BeginsWithNoRule-nil rule rest p = BeginsWithRule-filled p refl

-- a rule file begins with its rules, and nothing follows
pub BeginsWithRules-from_file : (text : List ℕ) (rules : List Rule) → IsRuleFile text rules
    → BeginsWithRules text rules []
BeginsWithRules-from_file text [] p = p
BeginsWithRules-from_file text (r ∷ rules) p = (p.0, p.1, BeginsWithRules-from_file p.0 rules p.2)

-- a text is a rule file in at most one way
pub IsRuleFile-one : (text : List ℕ) (one other : List Rule) → IsRuleFile text one → IsRuleFile text other → one ≡ other
IsRuleFile-one text one other p q =
    (all-one_until BeginsWithRule BeginsWithRule-one text one other (BeginsWithRules-from_file text one p)
    (BeginsWithRules-from_file text other q) BeginsWithNoRule-nil BeginsWithNoRule-nil).0

-- a text has at most one first bad line
pub FirstBadLine-one : (text : List ℕ) (one other : ℕ) → FirstBadLine text one → FirstBadLine text other → one ≡ other
FirstBadLine-one text one other p q =
    let first = BeginsWithRules-append p.0 p.2 p.1 p.4 in
    let second = BeginsWithRules-append q.0 q.2 q.1 q.4 in
    let same = all-one_until BeginsWithRule BeginsWithRule-one text p.2 q.2 (rw p.3 first) (rw q.3 second) p.7 q.7 in
    p.5 ∙ ap (λ rs. length rs + 1) same.0 ∙ sym q.5

-- a rule file has no bad line
pub FirstBadLine-none : (text : List ℕ) (n : ℕ) (rules : List Rule) → IsRuleFile text rules → ¬ FirstBadLine text n
FirstBadLine-none text n rules p q =
    let second = BeginsWithRules-append q.0 q.2 q.1 q.4 in
    let same = all-one_until BeginsWithRule BeginsWithRule-one text rules q.2 (BeginsWithRules-from_file text rules p)
    (rw q.3 second) BeginsWithNoRule-nil q.7 in
    q.6 (sym same.1)

-- where a text begins with rules, and the rest isn't empty and begins with none, the line after the rules is the first
-- bad one
pub FirstBadLine-from_rules : {text : List ℕ} (rules : List Rule) {more : List ℕ} → BeginsWithRules text rules more
    → more ≢ [] → BeginsWithNoRule more → FirstBadLine text (length rules + 1)
FirstBadLine-from_rules {text} rules {more} p filled none =
    let front = front_of_rules text rules p in (front.0, more, rules, front.1, front.2, refl, filled, none)

-- in a rule file, rules up to a rest that begins with none are all its rules
pub IsRuleFile-from_none : (text : List ℕ) (all rules : List Rule) (more : List ℕ) → IsRuleFile text all
    → BeginsWithRules text rules more → BeginsWithNoRule more → IsRuleFile text rules
IsRuleFile-from_none text all rules more p q none =
    let same = all-one_until BeginsWithRule BeginsWithRule-one text all rules (BeginsWithRules-from_file text all p) q
    BeginsWithNoRule-nil none in
    subst (λ rs. IsRuleFile text rs) same.0 p

-- How the text of an input grows by one match, or by one occurrence.
use Rattle.std.proofs.Common.{◌≡◌, ℕ, ◌<◌, List, [], ◌∷◌, ◌++◌, length, get_or, Result, Ok, Err, sym, ap, ◌∙◌, append_assoc}
use Rattle.std.specs.Prelude.{OnOk, slice_range}
use Rattle.std.proofs.lemmas.List.{append-nil, get_or-map}
use Rattle.ac_input.specs.Occurrence.{Occurrence}
use Rattle.ac_input.specs.Rules.{Rule}
use Rattle.ac_input.specs.Text.{replaced_from, line, listed}
use Rattle.acsub.specs.Rules.Lines.{rule_at}
use Rattle.acsub.specs.Rules.Sides.{replacements_of}
use Rattle.acsub.specs.Tally.{grown}
use Rattle.acsub.proofs.stream.CountedLemmas.{grown-none, grown-then}

-- the replacement of rule n is the n-th of the replacements
pub replacement_of_rule : (rules : List Rule) (n : ℕ) → n < length rules
    → (rule_at rules n).1 ≡ get_or (replacements_of rules) n []
replacement_of_rule rules n h = sym (get_or-map (λ (rule : Rule). rule.1) rules n ([], []) [] h)

-- one more match in a text with replacements
pub replaced-step : (at : ℕ) (o : Occurrence) (picks rest : List Occurrence) (input : List ℕ)
    (replacements : List (List ℕ)) (front before replacement text : List ℕ) → picks ≡ o ∷ rest
    → before ≡ slice_range input at o.start → replacement ≡ get_or replacements o.pattern []
    → front ++ replaced_from at input replacements picks ≡ text
    → (front ++ (before ++ replacement)) ++ replaced_from o.end input replacements rest ≡ text
replaced-step at o picks rest input replacements front before replacement text is is_before is_replacement e =
    let later = replaced_from o.end input replacements rest in
    append_assoc front (before ++ replacement) later
    ∙ ap (λ t. front ++ ((t ++ replacement) ++ later)) is_before
    ∙ ap (λ t. front ++ ((slice_range input at o.start ++ t) ++ later)) is_replacement
    ∙ ap (λ os. front ++ replaced_from at input replacements os) (sym is)
    ∙ e

-- one more line
pub listed-step : (o : Occurrence) (os rest : List Occurrence) (front text : List ℕ) → os ≡ o ∷ rest
    → front ++ listed os ≡ text → (front ++ line o) ++ listed rest ≡ text
listed-step o os rest front text is e =
    append_assoc front (line o) (listed rest) ∙ ap (λ t. front ++ listed t) (sym is) ∙ e

-- no further line
pub listed-end : (os : List Occurrence) (front text : List ℕ) → os ≡ [] → front ++ listed os ≡ text → front ≡ text
listed-end os front text is e = sym (append-nil front) ∙ ap (λ t. front ++ listed t) (sym is) ∙ e

-- ---- how the number of matches grows

-- by one match
pub counted-step : (n m all : ℕ) (o : Occurrence) (os rest : List Occurrence) → os ≡ o ∷ rest → m ≡ grown n 1
    → grown n (length os) ≡ all → grown m (length rest) ≡ all
counted-step n m all o os rest is one e =
    ap (λ k. grown k (length rest)) one
    ∙ grown-then n (length rest)
    ∙ ap (λ xs. grown n (length xs)) (sym is)
    ∙ e

-- by no further one
pub counted-end : (n all : ℕ) (os : List Occurrence) → os ≡ [] → grown n (length os) ≡ all → n ≡ all
counted-end n all os is e = sym (grown-none n) ∙ ap (λ xs. grown n (length xs)) (sym is) ∙ e

-- what holds anyway holds on `Ok`
pub on-ok : {T E : Type 0} (P : Type 0) (result : Result T E) → P → OnOk result P
on-ok P (Ok done) p = p
on-ok P (Err error) p = tt

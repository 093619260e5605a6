-- The first line splits into one pair of sides, which either are a rule or not.
use Rattle.std.proofs.Common.{length, Contains, refl, sym, ◌∙◌, ap, subst}
use Rattle.std.proofs.lemmas.Bool.{eq-eqb, eqb-true, false≢true}
use Rattle.std.proofs.lemmas.List.{nil_from_length}
use Rattle.ac_input.proofs.lemmas.RuleOrderLemmas.{Contains-between}
use Rattle.ac_input.proofs.lemmas.TextRuleLemmas.{BeginsWithNone-from_sides}
use Rattle.acsub.proofs.rules.FirstLineLemmas.{even-first, first-even}
use Rattle.acsub.proofs.rules.text.first_in_text.Goals as goal

pub returns-then-not-is_even : goal.returns-then-not-is_even
returns-then-not-is_even c file is rule more (begins, same) =
    false≢true (c.if-not-is_even.ensures.1 (first-even c.first_written.ensures c.args.tabbed file is same))

pub returns-then-is_empty : goal.returns-then-is_empty
returns-then-is_empty c file is rule more (begins, same) =
    let pattern = c.sides_of.result.0.now in
    BeginsWithNone-from_sides c.first_written.ensures c.without_return.ensures c.sides_of.ensures
    (λ sides. sides.0 (nil_from_length pattern (eqb-true (length pattern) 0 (sym c.if-is_empty.ensures)))) rule more begins

pub returns-in-Some : goal.returns-in-Some
returns-in-Some c file is rule more (begins, same) =
    let tab = c.in-Some.ensures.some in
    BeginsWithNone-from_sides c.first_written.ensures c.without_return.ensures c.sides_of.ensures
    (λ sides. sides.1 (subst (λ t. Contains t 9) (sym tab.0) (Contains-between _ _))) rule more begins

pub returns-in-None : goal.returns-in-None
returns-in-None c file is =
    let pattern = c.sides_of.result.0.now in
    let even = c.if-not-is_even.ensures.0 refl in (
      (pattern, c.sides_of.result.1.now),
      (refl, refl),
      (
        (
          c.first_written.result.0.now,
          c.without_return.result.now,
          c.first_written.ensures,
          c.without_return.ensures,
          (
            c.sides_of.ensures,
            (λ empty. false≢true (c.if-is_empty.ensures ∙ eq-eqb (length pattern) 0 (ap length empty))),
            c.in-None.ensures.none,
          ),
        ),
        even-first c.first_written.ensures c.args.tabbed file is even,
      ),
    )

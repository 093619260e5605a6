use Rattle.std.proofs.Common.{rules, tests}
use Rattle.std.specs.Char.{is_ascii_hexdigit}
use Rattle.std.proofs.lemmas.Bool.{eqb-true}
use Rattle.std.proofs.lemmas.Iterator.{YieldsList-from_slice}
use Rattle.std.proofs.lemmas.Iterator.Search.{all_from_yields_List}
use Rattle.acsub.proofs.rules.SpellingLemmas.{spelling_by_digits, digits_from_spelling}
use Rattle.acsub.proofs.rules.is_spelling.Goals as goal

pub returns-then-text-eq0 : goal.returns-then-text-eq0
returns-then-text-eq0 c =
    let text = c.args.text.now in
    let each = all_from_yields_List is_ascii_hexdigit _ _ c.all.result c.all.ensures.ran (YieldsList-from_slice text cc)
    (λ x b q k. search (rules, tests)) in
    spelling_by_digits text c.all.result c.if-text-eq0.true each

pub returns-else-text-eq0 : goal.returns-else-text-eq0
returns-else-text-eq0 c = (
  λ yes. absurd (c.if-text-eq0.false (eqb-true _ _ yes)),
  λ p. absurd (c.if-text-eq0.false (digits_from_spelling c.args.text.now p).0),
)

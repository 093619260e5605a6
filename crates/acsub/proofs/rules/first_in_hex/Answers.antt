use Rattle.std.proofs.Common.{◌∷◌, ◌++◌, refl, ap, ◌∙◌}
use Rattle.std.proofs.lemmas.Bool.{false≢true}
use Rattle.acsub.proofs.rules.LineLemmas.{BeginsWithNoRule-no_tab, BeginsWithNoRule-no_feed, BeginsWithNoRule-no_digits}
use Rattle.acsub.proofs.rules.first_in_hex.Goals as goal
use Rattle.acsub.proofs.rules.first_in_hex.Goals.{else-is_spelling-via-then-is_spelling+else-is_spelling-2, else-is_spelling-via-else-is_spelling}

pub returns-in_err-pattern : goal.returns-in_err-pattern
returns-in_err-pattern c file =
    rw c.from_residual.ensures (BeginsWithNoRule-no_tab c.args.bytes.now c.in_err-pattern.ensures.none)

pub returns-in_err-replacement : goal.returns-in_err-replacement
returns-in_err-replacement c file =
    let tab = c.in_ok-pattern.ensures.some in
    rw c.from_residual-in_err-replacement.ensures
    (BeginsWithNoRule-no_feed c.args.bytes.now c.in_ok-pattern.pattern.now c.in_ok-pattern.after.now tab.0 tab.1
    c.in_err-replacement.ensures.none)

pub returns-then-is_spelling-2 : goal.returns-then-is_spelling-2
returns-then-is_spelling-2 c file =
    let pattern = c.in_ok-pattern.pattern.now in
    let one = c.if-is_spelling.ensures.0 refl in
    let other = c.if-is_spelling-2.ensures.0 refl in
    let split = c.in_ok-pattern.ensures.some.0
    ∙ ap (λ after. pattern ++ 9 ∷ after) c.in_ok-replacement.ensures.some.0 in
    ((one.0, other.0), (one.1, other.1), (pattern, c.in_ok-replacement.replacement.now, one.1, other.1, split))

pub returns-else-is_spelling : goal.returns-else-is_spelling
returns-else-is_spelling c file =
    let tab = c.in_ok-pattern.ensures.some in
    let feed = c.in_ok-replacement.ensures.some in
    BeginsWithNoRule-no_digits c.args.bytes.now c.in_ok-pattern.pattern.now c.in_ok-pattern.after.now
    c.in_ok-replacement.replacement.now c.in_ok-replacement.rest.now tab.0 tab.1 feed.0 feed.1
    (elim c.else-is_spelling.branch [
      | else-is_spelling-via-then-is_spelling+else-is_spelling-2 w ↦
          λ p. absurd (false≢true (w.if-is_spelling-2.ensures.1 p.1))
      | else-is_spelling-via-else-is_spelling w ↦ λ p. absurd (false≢true (w.if-is_spelling.ensures.1 p.0))
    ])

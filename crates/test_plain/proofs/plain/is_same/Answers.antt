use Rattle.std.proofs.Common.{sym}
use Rattle.std.proofs.lemmas.Bool.{false_from_ne_true}
use Rattle.ac_input.proofs.lemmas.OrderLemmas.{same_text-length}
use Rattle.test_plain.proofs.plain.is_same.Goals as goal

pub returns-then-pattern-text : goal.returns-then-pattern-text
returns-then-pattern-text c =
    sym (false_from_ne_true _
    (λ h. c.if-pattern-text.true (same_text-length c.args.pairing.now c.args.pattern.now c.args.text.now h)))

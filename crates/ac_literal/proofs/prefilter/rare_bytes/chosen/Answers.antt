use Rattle.std.proofs.Common.{sym}
use Rattle.ac_literal.proofs.prefilter.ChoiceLemmas.{chosen-added, chosen-held}
use Rattle.ac_literal.proofs.prefilter.rare_bytes.chosen.Goals as goal

pub returns : goal.returns
returns c =
    λ closed.
    chosen-added
    closed c.rarest-byte.ensures.held (sym c.other.ensures.value) c.other.ensures.inverse c.with.ensures.more
    c.with-2.ensures.more

pub returns-then-is_held : goal.returns-then-is_held
returns-then-is_held c = λ closed. let held = c.is_held.ensures c.if-is_held.true in
    chosen-held c.args.pairing.now c.args.pattern.now c.args.few held.0 closed held.1 held.2

use Rattle.std.proofs.Common.{nat_lt, length, sym, ◌∙◌}
use Rattle.std.proofs.lemmas.Bool.{false≢true}
use borrow.Author.Tests.{ltb-true}
use Rattle.ac_literal.proofs.prefilter.ChoiceLemmas.{rare-push}
use Rattle.ac_literal.proofs.prefilter.rare_bytes.RareBytesBuilder.with.Goals as goal

pub returns-else-self : goal.returns-else-self
returns-else-self c =
    λ patterns so_far.
    rare-push c.args.pairing.now patterns c.args.pattern.now c.args.self c.chosen.result c.reached.result
    c.args.self.is_short so_far (c.chosen.ensures so_far.closed) c.reached.ensures
    (λ e. e) (λ e. absurd (false≢true (sym c.if-self.false ∙ e)))

pub returns-then-self : goal.returns-then-self
returns-then-self c =
    λ patterns so_far.
    rare-push c.args.pairing.now patterns c.args.pattern.now c.args.self c.chosen.result c.reached.result
    (nat_lt (length c.args.pattern.now) 256) so_far (c.chosen.ensures so_far.closed) c.reached.ensures
    (λ e. c.if-self.true) (λ e. ltb-true (length c.args.pattern.now) 256 e)

use Rattle.test_plain.proofs.plain.Occurrences.{within}
use Rattle.std.proofs.lemmas.Bool.{false≢true}
use Rattle.std.proofs.Common.{ap, arith}
use Rattle.test_plain.proofs.plain.Naive.is_covered.Goals as goal

pub returns-then-self-at : goal.returns-then-self-at
returns-then-self-at c =
    let end = ap (λ t. t.search.end) c.self.view_is in
    (λ e. absurd (false≢true e), λ h. let w = within c.args.self.now h.0 h.1 in let covers = h.2 in absurd (omega arith))

pub loop-start-init : goal.loop-start-init
loop-start-init c =
    let start = ap (λ t. t.search.start) c.self.view_is in
    λ o h before. let w = within c.args.self.now o h in absurd (omega arith)

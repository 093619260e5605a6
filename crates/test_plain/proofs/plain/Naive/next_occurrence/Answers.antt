use Rattle.ac_input.specs.declared.search.MatchKind.TheVariants.{Standard}
use Rattle.test_plain.proofs.plain.Occurrences.{within}
use Rattle.ac_input.proofs.lemmas.BestLemmas.{IsLeast-like}
use Rattle.std.proofs.Common.{ap, arith}
use Rattle.test_plain.proofs.plain.Naive.next_occurrence.Goals as goal

pub returns-in_default : goal.returns-in_default
returns-in_default c =
    let start = ap (λ t. t.search.start) c.self.view_is in
    IsLeast-like Standard
    (λ o. (λ h. (h.0, h.1), λ h. (h.0, h.1, let w = within c.args.self.now o h.0 in omega arith)))
    _ c.first_by_end.ensures

use Rattle.ac_input.specs.declared.search.MatchKind.TheVariants.{Standard}
use Rattle.test_plain.proofs.plain.Occurrences.{occurs, within}
use Rattle.ac_input.proofs.lemmas.BestLemmas.{IsLeast-like}
use Rattle.ac_input.specs.Input.{is_anchored}
use Rattle.std.proofs.Common.{IsTrue, sym, ap, refl, ◌∙◌, arith}
use Rattle.test_plain.proofs.plain.Naive.best.Goals as goal

pub returns-then-is_anchored : goal.returns-then-is_anchored
returns-then-is_anchored c =
    let start = ap (λ t. t.search.start) c.self.view_is in
    let anchored : IsTrue c.args.self.now.search.anchored =
    sym (ap (λ t. t.search.anchored) c.self.view_is) ∙ ap is_anchored (c.if-is_anchored.ensures.0 refl) in
    rw (← c.asked-kind.ensures)
    (IsLeast-like _
    (λ o. (λ h. h.0, λ h. (h, (occurs c.args.self.now o h).anchor anchored ∙ sym start)))
    _ c.best_starting_at.ensures)

pub returns-in-Standard : goal.returns-in-Standard
returns-in-Standard c =
    let start = ap (λ t. t.search.start) c.self.view_is in
    rw (← c.in-Standard.ensures)
    (IsLeast-like Standard
    (λ o. (λ h. h.0, λ h. (h, tt, let w = within c.args.self.now o h in omega arith)))
    _ c.first_by_end.ensures)

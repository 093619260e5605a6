-- The picks that are left begin with the next pick.
use Rattle.std.proofs.Common.{◌≡◌, ◌∷◌, Some, arith, sym, ◌∙◌, ap, subst, length}
use Rattle.ac_input.proofs.lemmas.AmongLemmas.{among-some, among-none, among-within}
use Rattle.ac_input.proofs.lemmas.WordLemmas.{asked-counted}
use Rattle.test_plain.specs.Naive.{plain_walk}
use Rattle.test_plain.proofs.plain.picks.PicksIterator.next.Goals as goal

pub returns-in_default-clause-steps : goal.returns-in_default-clause-steps
returns-in_default-clause-steps c =
    let none = sym c.self.view_is ∙ among-none (asked-counted c.self.inside.search.words) c.self.invariant.1 c.in_default.ensures in
    (none, none)

pub returns-clause-steps : goal.returns-clause-steps
returns-clause-steps c =
    let now = c.self.inside in
    let rest = among-some (asked-counted now.search.words) c.self.invariant.1 c.in-Some.ensures in
    subst (λ o. c.args.self.now ≡ c.in-Some.found ∷ plain_walk now.search now.kind o.end (Some o.end))
    (sym c.found.view_is) (sym c.self.view_is ∙ rest)

pub returns-clause-goes : goal.returns-clause-goes
returns-clause-goes c =
    let now = c.self.inside in
    let rest = among-some (asked-counted now.search.words) c.self.invariant.1 c.in-Some.ensures in
    let split = subst (λ o. c.args.self.now ≡ c.in-Some.found ∷ plain_walk now.search now.kind o.end (Some o.end))
    (sym c.found.view_is) (sym c.self.view_is ∙ rest) in
    let longer = ap length split in
    record { on = λ _. (tt, tt, omega arith); keeps = tt; rests = λ _. tt }

pub invariant_of-self : goal.invariant_of-self
invariant_of-self c =
    let w = among-within (asked-counted c.self.inside.search.words) c.in-Some.ensures in
    let end = ap (λ o. o.end) c.found.view_is in
    (omega arith, c.self.invariant.1)

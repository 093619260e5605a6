-- A packed search pairs no bytes, and neither do the settings that it serves. A walk that has not begun has counted
-- nothing.
use Rattle.std.proofs.Common.{ap, ◌∙◌, subst}
use Rattle.acsub.specs.Finder.{IsFinderOf, whole_walk}
use Rattle.acsub.specs.Plan.{plan_of}
use Rattle.acsub.proofs.run.CountLemmas.{walk-fresh}
use Rattle.acsub.proofs.prepared.FinderLemmas.{packed-walk}
use Rattle.acsub.proofs.prepared.Prepared.picks.Goals as goal

pub returns-in-Packed-clause-walk : goal.returns-in-Packed-clause-walk
returns-in-Packed-clause-walk c =
    let inside = plan_of c.self.inside.stream c.self.inside.settings c.self.inside.rules.now in
    let serves = subst (λ finder. IsFinderOf inside.settings inside.rules finder) c.in-Packed.is c.self.invariant in
    c.find_iter.ensures ∙ packed-walk inside c.args.input.now c.in-Packed.searcher serves
    ∙ ap (λ plan. whole_walk plan c.args.input.now) c.self.view_is

pub returns-in-Automaton-clause-fresh : goal.returns-in-Automaton-clause-fresh
returns-in-Automaton-clause-fresh c =
    let inside = plan_of c.self.inside.stream c.self.inside.settings c.self.inside.rules.now in
    let serves = subst (λ finder. IsFinderOf inside.settings inside.rules finder) c.in-Automaton.is c.self.invariant in
    walk-fresh c.in-Automaton.automaton inside c.args.self.now c.args.input.now _ _ _ c.self.view_is serves
    c.try_find_iter_ahead.ensures.answer c.unwrap.ensures c.new.ensures

-- A run through all occurrences that has not begun has counted nothing.
use Rattle.std.proofs.Common.{subst}
use Rattle.acsub.specs.Finder.{IsFinderOf}
use Rattle.acsub.specs.Plan.{plan_of}
use Rattle.acsub.proofs.run.CountLemmas.{listing-fresh}
use Rattle.acsub.proofs.prepared.Prepared.overlapping.Goals as goal

pub returns-clause-fresh : goal.returns-clause-fresh
returns-clause-fresh c =
    let inside = plan_of c.self.inside.stream c.self.inside.settings c.self.inside.rules.now in
    let serves = subst (λ finder. IsFinderOf inside.settings inside.rules finder) c.in-Automaton.is c.self.invariant in
    listing-fresh c.in-Automaton.automaton inside c.args.self.now c.args.input.now _ _ _ c.self.view_is serves
    c.try_find_overlapping_iter.ensures.answer c.unwrap.ensures c.new.ensures

-- Nothing else changes.
use Rattle.ac_automaton.proofs.stream.StreamAheadLemmas.{closed-kept}
use Rattle.ac_automaton.proofs.stream.search.StreamSearch.finish.Goals as goal

pub invariant_of-self : goal.invariant_of-self
invariant_of-self g c =
    closed-kept g.A.Automaton c.self.inside c.may_wait-self-inside.result c.may_wait-self-inside.ensures
    c.self.invariant

pub returns-clause-kept : goal.returns-clause-kept
returns-clause-kept g c = (invariant_of-self g c).0

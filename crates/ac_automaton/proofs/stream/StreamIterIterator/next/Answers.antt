-- Each call that returns an item leaves fewer.
use Rattle.ac_automaton.proofs.stream.StreamLeftLemmas.{items-fewer}
use Rattle.ac_automaton.proofs.stream.StreamIterIterator.next.Goals as goal

pub returns-clause-goes : goal.returns-clause-goes
returns-clause-goes g c =
    items-fewer g.S.ItemSearch.progress g.R.Read.remaining _ _ _ c.next_counted.ensures.gives
    c.next_counted.ensures.goes.1

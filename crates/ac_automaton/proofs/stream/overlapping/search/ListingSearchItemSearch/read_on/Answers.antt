-- A read counts nothing.
use Rattle.ac_automaton.proofs.stream.StreamCountLemmas.{StreamCounts-nothing}
use Rattle.ac_automaton.proofs.stream.overlapping.search.ListingSearchItemSearch.read_on.Goals as goal

pub returns-clause-goes : goal.returns-clause-goes
returns-clause-goes g c = (
  StreamCounts-nothing c.args.steps.now c.read_more.ensures.steps,
  c.read_more.ensures.kept,
)

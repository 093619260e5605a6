-- A search that was finished counts nothing.
use Rattle.ac_automaton.proofs.stream.StreamCountLemmas.{StreamCounts-none}
use Rattle.ac_c.proofs.searching.Pushed.push_counted.Goals as goal

pub returns-then-is_finished-clause-cost : goal.returns-then-is_finished-clause-cost
returns-then-is_finished-clause-cost g c =
    StreamCounts-none (g.S.PieceSearch.progress c.args.self.now.search) c.args.steps.now

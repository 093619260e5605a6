use Rattle.ac_tables.proofs.dfa.ReadLemmas.{start-said}
use Rattle.ac_tables.proofs.dfa.automaton.DFAAutomaton.is_start.Goals as goal

pub returns-clause-tells : goal.returns-clause-tells
returns-clause-tells c = start-said c.args.self.now c.args.sid c.is_start.result c.is_start.ensures

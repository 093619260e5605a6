use Rattle.ac_noncontiguous.proofs.nfa.ReadCallLemmas.{texts-begin}
use Rattle.ac_noncontiguous.proofs.nfa.NFA.states_stand.Goals as goal

pub returns-clause-begin : goal.returns-clause-begin
returns-clause-begin c = texts-begin c.args.self.now

pub returns-clause-within : goal.returns-clause-within
returns-clause-within c = c.args.self.now.within

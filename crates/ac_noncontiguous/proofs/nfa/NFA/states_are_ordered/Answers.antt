use Rattle.ac_noncontiguous.proofs.nfa.ReadCallLemmas.{ordered-in}
use Rattle.ac_noncontiguous.proofs.nfa.NFA.states_are_ordered.Goals as goal

pub returns : goal.returns
returns c = ordered-in

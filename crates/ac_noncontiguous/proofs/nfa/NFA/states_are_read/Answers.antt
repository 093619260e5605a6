use Rattle.ac_noncontiguous.proofs.nfa.ReadCallLemmas.{are-read}
use Rattle.ac_noncontiguous.proofs.nfa.NFA.states_are_read.Goals as goal

pub returns : goal.returns
returns c = are-read

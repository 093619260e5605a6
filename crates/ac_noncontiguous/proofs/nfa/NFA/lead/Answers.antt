use Rattle.ac_noncontiguous.proofs.nfa.ReadCallLemmas.{met-visited, leads-in}
use Rattle.ac_noncontiguous.proofs.nfa.NFA.lead.Goals as goal

pub next-requires : goal.next-requires
next-requires c = met-visited c.requires

pub returns : goal.returns
returns c = leads-in c.requires c.next.ensures

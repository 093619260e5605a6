use Rattle.std.proofs.Common.{arith}
use Rattle.ac_noncontiguous.proofs.nfa.ReadCallLemmas.{counts-in}
use Rattle.ac_noncontiguous.proofs.nfa.NFA.state_len.Goals as goal

pub returns-clause-counted : goal.returns-clause-counted
returns-clause-counted c = counts-in (omega (arith, c.len.ensures))

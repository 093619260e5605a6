use Rattle.ac_noncontiguous.proofs.nfa.ReadCallLemmas.{alike-in}
use Rattle.ac_noncontiguous.proofs.nfa.NFA.byte_classes.Goals as goal

pub returns-clause-alike : goal.returns-clause-alike
returns-clause-alike c = alike-in c.args.self.now

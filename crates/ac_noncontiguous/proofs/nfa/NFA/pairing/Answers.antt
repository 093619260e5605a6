use Rattle.ac_noncontiguous.proofs.nfa.NFA.pairing.Goals as goal

pub returns-clause-paired : goal.returns-clause-paired
returns-clause-paired c = c.args.self.now.paired

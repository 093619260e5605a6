use Rattle.ac_noncontiguous.proofs.nfa.ReadLemmas.{state-visited, next-read, next-cost}
use Rattle.ac_noncontiguous.proofs.nfa.automaton.NFAAutomaton.next_state_counted.Goals as goal

pub next-requires : goal.next-requires
next-requires c = state-visited c.args.self.now c.requires

pub returns-clause-next : goal.returns-clause-next
returns-clause-next c = next-read c.args.self.now c.next.ensures

pub returns-clause-cost : goal.returns-clause-cost
returns-clause-cost c = next-cost c.args.self.now c.next.ensures

-- The openings are those of the automaton's dictionary.
use Rattle.ac_tables.proofs.contiguous.automaton.NFAAutomaton.rules_out.Goals as goal

pub returns : goal.returns
returns c says = c.rule_out.ensures says _ c.args.self.now.opened
